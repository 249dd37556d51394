-- Worked examples. Mutexes and conditions.
use Rattle.std.specs.Prelude.{[], ◌∷◌, ◌≡◌, Some, true, false, codes, refl}
use Rattle.std.specs.Fmt.{digits}
use Rattle.words_script.specs.declared.call.Call.TheVariants as call
use Rattle.words_script.specs.declared.call.Moment.TheVariants as moment
use Rattle.words_script.specs.declared.call.Operand.TheVariants as operand
use Rattle.words_script.specs.declared.policy.Policy.TheVariants as policy
use Rattle.words_script.specs.declared.policy.Protocol.TheVariants as protocol
use Rattle.words_script.specs.declared.decl.Decl.TheVariants as decl
use Rattle.words_script.specs.declared.decl.Kind.TheVariants as kind
use Rattle.words_script.specs.Block.{Nothing, Running, Making, Guarding}
use Rattle.words_script.specs.declared.decl.Script.{Script}
use Rattle.rules_machine.specs.Priorities.{exec_in}
use Rattle.rules_machine.specs.Machine.{trace}
use Rattle.rules_machine.proofs.Examples.Trace.{text_of}

-- Inheritance passes from waiter to owner along a chain, and a timeout takes it back.
abbrev inheritance_along_a_chain_of_owners_script : Script
inheritance_along_a_chain_of_owners_script = record {
  version = 1;
  quantum = 10;
  decls =
      decl.Named (codes "m1") (kind.Mutex protocol.Inherit false)
      ∷ decl.Named (codes "m2") (kind.Mutex protocol.Inherit false)
      ∷ decl.Named (codes "m3") (kind.Mutex protocol.Inherit false)
      ∷ decl.Named (codes "a") (kind.Thread (policy.Fifo 1) (Some 0) (Making (call.Lock 0) (Running 30 Nothing)))
      ∷ decl.Named (codes "b") (kind.Thread (policy.Fifo 2) (Some 1) (Making (call.Lock 1) (Making (call.Timedlock 0 (moment.Monotonic (operand.Num 20))) (Making (call.Unlock 1) Nothing))))
      ∷ decl.Named (codes "c") (kind.Thread (policy.Fifo 3) (Some 3) (Making (call.Lock 2) (Making (call.Lock 1) (Making (call.Unlock 2) Nothing))))
      ∷ decl.Named (codes "d") (kind.Thread (policy.Fifo 9) (Some 5) (Making (call.Lock 2) Nothing))
      ∷ [];
}

pub inheritance_along_a_chain_of_owners : trace inheritance_along_a_chain_of_owners_script 27 ≡ text_of (codes "0 start a"
    ∷ codes "0 dispatch a 1"
    ∷ codes "1 return a lock 0 0"
    ∷ codes "1 start b"
    ∷ codes "1 dispatch b 2"
    ∷ codes "2 return b lock 0 0"
    ∷ codes "3 start c"
    ∷ codes "3 dispatch c 3"
    ∷ codes "4 return c lock 0 0"
    ∷ codes "5 start d"
    ∷ codes "5 dispatch d 9"
    ∷ codes "6 dispatch a 9"
    ∷ codes "20 return b timedlock ETIMEDOUT 0"
    ∷ codes "20 dispatch b 9"
    ∷ codes "21 return b unlock 0 0"
    ∷ codes "21 return c lock 0 0"
    ∷ codes "21 dispatch c 9"
    ∷ codes "22 return c unlock 0 0"
    ∷ codes "22 return d lock 0 0"
    ∷ codes "22 dispatch d 9"
    ∷ codes "23 exit d"
    ∷ codes "23 dispatch c 3"
    ∷ codes "24 exit c"
    ∷ codes "24 dispatch b 2"
    ∷ codes "25 exit b"
    ∷ codes "25 dispatch a 1"
    ∷ codes "27 end"
    ∷ codes "thread a ticks 17"
    ∷ codes "thread b ticks 4"
    ∷ codes "thread c ticks 4"
    ∷ codes "thread d ticks 2"
    ∷ [])
unfolding digits exec_in
inheritance_along_a_chain_of_owners = refl

-- A tick settles twice: an owner is raised by its waiter, and falls again as the waiter plans, to the head of its list.
abbrev owner_rises_and_falls_in_one_tick_script : Script
owner_rises_and_falls_in_one_tick_script = record {
  version = 1;
  quantum = 10;
  decls =
      decl.Named (codes "m") (kind.Mutex protocol.Inherit false)
      ∷ decl.Named (codes "o") (kind.Thread (policy.Fifo 3) (Some 0) (Making (call.Lock 0) (Making call.Yield (Running 1 Nothing))))
      ∷ decl.Named (codes "p") (kind.Thread (policy.Fifo 3) (Some 0) (Running 1 Nothing))
      ∷ decl.Named (codes "s") (kind.Thread (policy.Sporadic (record { high = 8; low = 2; period = 9; budget = 2; max = 1 })) (Some 2) (Making (call.Lock 0) Nothing))
      ∷ [];
}

pub owner_rises_and_falls_in_one_tick : trace owner_rises_and_falls_in_one_tick_script 4 ≡ text_of (codes "0 start o"
    ∷ codes "0 start p"
    ∷ codes "0 dispatch o 3"
    ∷ codes "1 return o lock 0 0"
    ∷ codes "2 return o yield 0 0"
    ∷ codes "2 start s"
    ∷ codes "2 activate s 2"
    ∷ codes "2 dispatch s 8"
    ∷ codes "3 plan s 1 11"
    ∷ codes "3 dispatch o 3"
    ∷ codes "4 end"
    ∷ codes "thread o ticks 3"
    ∷ codes "thread p ticks 0"
    ∷ codes "thread s ticks 1 high 1 init 2 refilled 0 capacity 1"
    ∷ [])
unfolding digits exec_in
owner_rises_and_falls_in_one_tick = refl

-- A cancelled condition wait owns its mutex before its cleanup handler runs.
abbrev pub cancelled_condition_wait_owns_the_mutex_first_script : Script
cancelled_condition_wait_owns_the_mutex_first_script = record {
  version = 1;
  quantum = 10;
  decls =
      decl.Named (codes "m") (kind.Mutex protocol.Plain false)
      ∷ decl.Named (codes "c") (kind.Cond)
      ∷ decl.Named (codes "u") (kind.Cleanup (Making (call.Unlock 0) Nothing))
      ∷ decl.Named (codes "x") (kind.Thread (policy.Fifo 5) (Some 0) (Making (call.Lock 0) (Guarding 0 true (Making (call.Wait 0 0) Nothing) Nothing)))
      ∷ decl.Named (codes "y") (kind.Thread (policy.Fifo 5) (Some 0) (Making (call.Lock 0) (Making (call.Wait 0 0) (Making (call.Unlock 0) Nothing))))
      ∷ decl.Named (codes "z") (kind.Thread (policy.Fifo 5) (Some 0) (Making (call.Lock 0) (Making (call.Wait 0 0) (Making (call.Unlock 0) Nothing))))
      ∷ decl.Named (codes "k") (kind.Thread (policy.Fifo 3) (Some 0) (Making (call.Lock 0) (Making (call.Cancel 0) (Making (call.Broadcast 0) (Making (call.Unlock 0) Nothing)))))
      ∷ [];
}

pub cancelled_condition_wait_owns_the_mutex_first : trace cancelled_condition_wait_owns_the_mutex_first_script 19 ≡ text_of (codes "0 start x"
    ∷ codes "0 start y"
    ∷ codes "0 start z"
    ∷ codes "0 start k"
    ∷ codes "0 dispatch x 5"
    ∷ codes "1 return x lock 0 0"
    ∷ codes "2 return x push 0 0"
    ∷ codes "3 dispatch y 5"
    ∷ codes "4 return y lock 0 0"
    ∷ codes "5 dispatch z 5"
    ∷ codes "6 return z lock 0 0"
    ∷ codes "7 dispatch k 3"
    ∷ codes "8 return k lock 0 0"
    ∷ codes "9 return k cancel 0 0"
    ∷ codes "10 return k broadcast 0 0"
    ∷ codes "11 return k unlock 0 0"
    ∷ codes "11 cancel x"
    ∷ codes "11 dispatch x 5"
    ∷ codes "12 return x unlock 0 0"
    ∷ codes "12 return y wait 0 0"
    ∷ codes "14 exit x"
    ∷ codes "14 dispatch y 5"
    ∷ codes "15 return y unlock 0 0"
    ∷ codes "15 return z wait 0 0"
    ∷ codes "16 exit y"
    ∷ codes "16 dispatch z 5"
    ∷ codes "17 return z unlock 0 0"
    ∷ codes "18 exit z"
    ∷ codes "18 dispatch k 3"
    ∷ codes "19 exit k"
    ∷ codes "19 end"
    ∷ codes "thread x ticks 6"
    ∷ codes "thread y ticks 4"
    ∷ codes "thread z ticks 4"
    ∷ codes "thread k ticks 5"
    ∷ [])
unfolding digits exec_in
cancelled_condition_wait_owns_the_mutex_first = refl
