-- Worked lines of a controller and its server, each computed by the definition.
use Rattle.std.proofs.Common.{◌≡◌, ℕ, List, [], ◌∷◌, codes, refl, None, Some}
use Rattle.std.specs.Fmt.{digits}
use Rattle.words_numbers.specs.declared.res.Res.TheVariants as res
use Rattle.words_numbers.specs.declared.sig_code.SigCode.TheVariants as code
use Rattle.words_trace.specs.declared.event.Event.TheVariants as event
use Rattle.words_trace.specs.declared.event.CallName.TheVariants as call
use Rattle.words_trace.specs.Text.{line, lines, report_line}

-- the controller is thread 0, the server thread 1
abbrev names : List (List ℕ)
names = codes "ctl" ∷ codes "srv" ∷ []

dispatched : line names 24 (event.Dispatch 0 30) ≡ codes "24 dispatch ctl 30\n"
unfolding digits
dispatched = refl

idle : line names 7 event.Idle ≡ codes "7 idle\n"
unfolding digits
idle = refl

delivered : line names 24 (event.Deliver 0 5 code.Timer 0) ≡ codes "24 deliver ctl rt5 TIMER 0\n"
unfolding digits
delivered = refl

returned : line names 33 (event.Return 1 call.MqReceive res.Zero 42) ≡ codes "33 return srv mq_receive 0 42\n"
unfolding digits
returned = refl

planned : line names 40 (event.Plan 1 5 73) ≡ codes "40 plan srv 5 73\n"
unfolding digits
planned = refl

two_events : lines names (record { time = 42; event = event.Refill 1 1 1 } ∷ record { time = 42; event = event.Activate 1 1 } ∷ [])
    ≡ codes "42 refill srv 1 1\n42 activate srv 1\n"
unfolding digits
two_events = refl

closing : report_line names 0 (record { ticks = 12; budget = None }) ≡ codes "thread ctl ticks 12\n"
unfolding digits
closing = refl

closing_with_budget : report_line names 1 (record { ticks = 7; budget = Some (record { high = 7; init = 6; refilled = 1; capacity = 0 }) })
    ≡ codes "thread srv ticks 7 high 7 init 6 refilled 1 capacity 0\n"
unfolding digits
closing_with_budget = refl
