-- Two objects are the same exactly where their lists are.
use Rattle.std.proofs.Common.{◌≡◌, ◌==◌, ℕ, ◌+◌, ◌<◌, false, refl, arith}
use Rattle.std.proofs.lemmas.Bool.Decides.{nat_tests}
use Rattle.parts_waiters.specs.declared.WaitObj.{WaitObj}
use Rattle.parts_waiters.specs.declared.WaitObj.TheVariants.{Cond, Mutex, Receiver, Sem, Sender, SigWait}
use Rattle.parts_waiters.specs.Held.{id_of, number_of}
use Rattle.parts_waiters.specs.Places.{same_object}

shifted : (n a b : ℕ) → (a == b) ≡ (n + a == n + b)
shifted n a b = grind (arith, nat_tests)

apart : (m n : ℕ) → m < n → false ≡ (m == n)
apart m n l = grind (arith, nat_tests, l)

apart_back : (m n : ℕ) → n < m → false ≡ (m == n)
apart_back m n l = grind (arith, nat_tests, l)

pub same_number : (a b : WaitObj) → id_of a < 256 → id_of b < 256 → same_object a b ≡ (number_of a == number_of b)
same_number (Mutex a) (Mutex b) sa sb = refl
same_number (Mutex a) (Cond b) sa sb = apart (a) (256 + b) (omega (arith, sa, sb))
same_number (Mutex a) (Sem b) sa sb = apart (a) (512 + b) (omega (arith, sa, sb))
same_number (Mutex a) (Sender b) sa sb = apart (a) (768 + b) (omega (arith, sa, sb))
same_number (Mutex a) (Receiver b) sa sb = apart (a) (1024 + b) (omega (arith, sa, sb))
same_number (Mutex a) SigWait sa sb = apart (a) (1280) (omega (arith, sa, sb))
same_number (Cond a) (Mutex b) sa sb = apart_back (256 + a) (b) (omega (arith, sa, sb))
same_number (Cond a) (Cond b) sa sb = shifted 256 a b
same_number (Cond a) (Sem b) sa sb = apart (256 + a) (512 + b) (omega (arith, sa, sb))
same_number (Cond a) (Sender b) sa sb = apart (256 + a) (768 + b) (omega (arith, sa, sb))
same_number (Cond a) (Receiver b) sa sb = apart (256 + a) (1024 + b) (omega (arith, sa, sb))
same_number (Cond a) SigWait sa sb = apart (256 + a) (1280) (omega (arith, sa, sb))
same_number (Sem a) (Mutex b) sa sb = apart_back (512 + a) (b) (omega (arith, sa, sb))
same_number (Sem a) (Cond b) sa sb = apart_back (512 + a) (256 + b) (omega (arith, sa, sb))
same_number (Sem a) (Sem b) sa sb = shifted 512 a b
same_number (Sem a) (Sender b) sa sb = apart (512 + a) (768 + b) (omega (arith, sa, sb))
same_number (Sem a) (Receiver b) sa sb = apart (512 + a) (1024 + b) (omega (arith, sa, sb))
same_number (Sem a) SigWait sa sb = apart (512 + a) (1280) (omega (arith, sa, sb))
same_number (Sender a) (Mutex b) sa sb = apart_back (768 + a) (b) (omega (arith, sa, sb))
same_number (Sender a) (Cond b) sa sb = apart_back (768 + a) (256 + b) (omega (arith, sa, sb))
same_number (Sender a) (Sem b) sa sb = apart_back (768 + a) (512 + b) (omega (arith, sa, sb))
same_number (Sender a) (Sender b) sa sb = shifted 768 a b
same_number (Sender a) (Receiver b) sa sb = apart (768 + a) (1024 + b) (omega (arith, sa, sb))
same_number (Sender a) SigWait sa sb = apart (768 + a) (1280) (omega (arith, sa, sb))
same_number (Receiver a) (Mutex b) sa sb = apart_back (1024 + a) (b) (omega (arith, sa, sb))
same_number (Receiver a) (Cond b) sa sb = apart_back (1024 + a) (256 + b) (omega (arith, sa, sb))
same_number (Receiver a) (Sem b) sa sb = apart_back (1024 + a) (512 + b) (omega (arith, sa, sb))
same_number (Receiver a) (Sender b) sa sb = apart_back (1024 + a) (768 + b) (omega (arith, sa, sb))
same_number (Receiver a) (Receiver b) sa sb = shifted 1024 a b
same_number (Receiver a) SigWait sa sb = apart (1024 + a) (1280) (omega (arith, sa, sb))
same_number SigWait (Mutex b) sa sb = apart_back (1280) (b) (omega (arith, sa, sb))
same_number SigWait (Cond b) sa sb = apart_back (1280) (256 + b) (omega (arith, sa, sb))
same_number SigWait (Sem b) sa sb = apart_back (1280) (512 + b) (omega (arith, sa, sb))
same_number SigWait (Sender b) sa sb = apart_back (1280) (768 + b) (omega (arith, sa, sb))
same_number SigWait (Receiver b) sa sb = apart_back (1280) (1024 + b) (omega (arith, sa, sb))
same_number SigWait SigWait sa sb = refl
