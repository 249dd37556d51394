-- The kinds of things that names stand for. The script language is this project's own.
use Rattle.std.specs.Prelude.{ℕ, ◌==◌, Bool}
use Rattle.words_script.specs.declared.decl.Kind.{Kind}
use Rattle.words_script.specs.declared.decl.Kind.TheVariants as said
use Rattle.words_script.specs.declared.name_kind.NameKind.{NameKind}
use Rattle.words_script.specs.declared.name_kind.NameKind.TheVariants as kind

-- numbers that tell kinds apart
abbrev pub kind_number : NameKind → ℕ
kind_number kind.Thread = 0
kind_number kind.Mutex = 1
kind_number kind.Cond = 2
kind_number kind.Sem = 3
kind_number kind.Queue = 4
kind_number kind.Timer = 5
kind_number kind.Handler = 6
kind_number kind.Cleanup = 7

abbrev pub same_kind : NameKind → NameKind → Bool
same_kind a b = kind_number a == kind_number b

-- the kind of what is declared
abbrev pub kind_of : Kind → NameKind
kind_of (said.Thread policy start body) = kind.Thread
kind_of (said.Handler body) = kind.Handler
kind_of (said.Cleanup body) = kind.Cleanup
kind_of (said.Mutex protocol recursive) = kind.Mutex
kind_of said.Cond = kind.Cond
kind_of (said.Sem value) = kind.Sem
kind_of (said.Queue depth max_len nonblock) = kind.Queue
kind_of (said.Timer sig value real) = kind.Timer
