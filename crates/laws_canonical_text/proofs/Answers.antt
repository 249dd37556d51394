-- Answers of calls are read back from their texts.
use Rattle.std.proofs.Common.{◌≡◌, refl, Some}
use Rattle.words_numbers.specs.declared.res.Res.{Res}
use Rattle.words_numbers.specs.declared.res.Res.TheVariants as res
use Rattle.words_numbers.specs.Words.{res_text}
use Rattle.script_table.specs.Words.{answer_of}

pub answer_of-res_text : (r : Res) → answer_of (res_text r) ≡ Some r
answer_of-res_text res.Zero = refl
answer_of-res_text res.Again = refl
answer_of-res_text res.Busy = refl
answer_of-res_text res.Deadlk = refl
answer_of-res_text res.Intr = refl
answer_of-res_text res.Inval = refl
answer_of-res_text res.Msgsize = refl
answer_of-res_text res.Overflow = refl
answer_of-res_text res.Perm = refl
answer_of-res_text res.Srch = refl
answer_of-res_text res.Timedout = refl
