-- A leap of a thread that passes no unit, and text that nobody hears.
use Rattle.std.proofs.Common.{◌≡◌, ◌+◌, ◌-◌, ◌∙◌, ℕ, Bool, List, None, Option, Some, [], ap, length, arith, false, refl, subst, sym, true}
use Rattle.parts_tracer.specs.Printed.{Printed}
use Rattle.parts_tracer.specs.Printed as tracer
use Rattle.parts_tracer.specs.Tells.{Tells}
use Rattle.parts_tracer.specs.declared.tracer.Tracer.{Tracer}
use Rattle.script_printer.specs.Puts.{Put}
use Rattle.script_printer.specs.Puts as printer
use Rattle.words_trace.specs.Text.{Entry}
use Rattle.rules_flat_code.specs.FlatBodies.{flat_bodies}
use Rattle.rules_leaps.specs.Leap.{leap_runs}
use Rattle.kernel_threads.specs.Running.{all_of}
use Rattle.kernel_state.specs.Kernel.{Kernel, after, told}
use Rattle.kernel_leaps.specs.Passing.{HasLeapt, PassesNoUnit, leap_of, passed_by}
use Rattle.kernel_leaps.proofs.Passing.{none_passed}

-- the same of a printer's sink
pub put_of : {K : Type 0} (text : K → Option (List ℕ)) (faults : K → ℕ) (v w : Bool) (a b : K) (due : List ℕ)
    → Printed (tracer.outlet text faults v a) (tracer.outlet text faults w b) due → Put (printer.outlet text faults v a) (printer.outlet text faults w b) due
put_of text faults v w a b due h = record {
  silent = λ failed. ap (λ (o : tracer.Outlet). record { failed = o.failed; text = o.text; faults = o.faults }) (h.silent failed);
  whole = h.whole;
  part = h.part;
  no_fault = h.no_fault;
  fault = h.fault;
  later = h.later;
}

-- ---- text that nobody hears

clash : (v : Bool) → v ≡ false → v ≡ true → ⊥
clash v ok failed = cc

abbrev pub unheard : {K : Type 0} → K → Option (List ℕ)
unheard k = None

abbrev pub faultless : {K : Type 0} → K → ℕ
faultless k = 0

-- of a sink that tells no text any events may be told
pub tells_unheard : {K : Type 0} (names : List (List ℕ)) (a : Tracer K) (es : List Entry) → Tells unheard faultless names a a es
tells_unheard names a es = record {
  told = record {
    same_sink = refl;
    printed = record {
      silent = λ failed. refl;
      whole = λ ok. tt;
      part = (0, tt);
      no_fault = λ ok. refl;
      fault = λ ok failed. absurd (clash a.failed ok failed);
      later = omega arith;
      short = λ h. h;
    };
  };
}

-- ---- a leap that passes no unit

module _ {K : Type 0} (text : K → Option (List ℕ)) (faults : K → ℕ) (near t ticks : ℕ) (old new : Kernel) (a b : Tracer K) (before now : ℕ) (alone : PassesNoUnit near t old)
    (h : HasLeapt text faults near t ticks old new a b before now) where
  no_units : h.units ≡ []
  no_units = alone h.units h.each

  from_here : passed_by t h.units old ≡ old
  from_here = ap (λ (units : List ℕ). passed_by t units old) no_units ∙ sym (none_passed t old)

  leap_is : leap_of (near - all_of h.units) t (passed_by t h.units old) ≡ leap_of near t old
  leap_is =
      let all : near - all_of [] ≡ near = omega arith in
      ap (λ (units : List ℕ). leap_of (near - all_of units) t (passed_by t h.units old)) no_units
      ∙ ap (λ (n : ℕ). leap_of n t (passed_by t h.units old)) all
      ∙ ap (leap_of near t) from_here

  pub leap_long : ticks ≡ leap_of near t old
  leap_long = (let all = h.all in let none : all_of h.units ≡ 0 = ap all_of no_units in omega (arith, all, none, leap_is))

  pub leap_state : new ≡ after (leap_runs (flat_bodies old.code) ticks (Some t)) old
  leap_state =
      h.state
      ∙ ap (λ (j : ℕ). after (leap_runs (flat_bodies old.code) j (Some t)) (passed_by t h.units old)) (leap_is ∙ sym leap_long)
      ∙ ap (after (leap_runs (flat_bodies old.code) ticks (Some t))) from_here

  pub leap_told : Tells text faults old.names a b (told (leap_runs (flat_bodies old.code) ticks (Some t)) old)
  leap_told =
      subst (λ (k : Kernel). Tells text faults old.names a b (told (leap_runs (flat_bodies old.code) ticks (Some t)) k)) from_here
      (subst (λ (j : ℕ). Tells text faults old.names a b (told (leap_runs (flat_bodies old.code) j (Some t)) (passed_by t h.units old))) (leap_is ∙ sym leap_long) h.told)

  pub leap_step : now ≡ before + 1
  leap_step = (let steps = h.steps in let none : length h.units ≡ 0 = ap length no_units in omega (arith, steps, none))
