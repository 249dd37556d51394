-- The words of answers, of signal codes and of signals.
use Rattle.std.specs.Prelude.{ℕ, List, codes, decimal, ◌++◌}
use Rattle.words_numbers.specs.declared.res.Res.{Res}
use Rattle.words_numbers.specs.declared.res.Res.TheVariants as res
use Rattle.words_numbers.specs.declared.sig_code.SigCode.{SigCode}
use Rattle.words_numbers.specs.declared.sig_code.SigCode.TheVariants as code

-- the names of <errno.h>, XSH 2.3
abbrev pub res_text : Res → List ℕ
res_text res.Zero = codes "0"
res_text res.Again = codes "EAGAIN"
res_text res.Busy = codes "EBUSY"
res_text res.Deadlk = codes "EDEADLK"
res_text res.Intr = codes "EINTR"
res_text res.Inval = codes "EINVAL"
res_text res.Msgsize = codes "EMSGSIZE"
res_text res.Overflow = codes "EOVERFLOW"
res_text res.Perm = codes "EPERM"
res_text res.Srch = codes "ESRCH"
res_text res.Timedout = codes "ETIMEDOUT"

-- the codes of XSH 2.4.3, without their prefix
abbrev pub sig_code_text : SigCode → List ℕ
sig_code_text code.User = codes "USER"
sig_code_text code.Queue = codes "QUEUE"
sig_code_text code.Timer = codes "TIMER"
sig_code_text code.Mesgq = codes "MESGQ"

-- the word of a realtime signal: `rt` and its number
abbrev pub signal_word : ℕ → List ℕ
signal_word sig = codes "rt" ++ decimal sig
