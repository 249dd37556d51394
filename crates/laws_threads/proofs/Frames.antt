-- The frames of a thread stay at places of the code, in their order, through all that a thread can undergo.
use Rattle.std.proofs.Common.{Bool, List, [], ap, arith, false, length, refl, true, ℕ, ◌+◌, ◌<◌, ◌≤◌, ◌∙◌, ◌∷◌, ◌≡◌}
use Rattle.std.specs.Prelude.{drop}
use Rattle.words_numbers.specs.declared.res.Res.{Res}
use Rattle.words_numbers.specs.declared.res.Res.TheVariants as res
use Rattle.words_script.specs.declared.decl.Script.{Script}
use Rattle.rules_bodies.specs.declared.cursor.Cursor.{Cursor}
use Rattle.rules_bodies.specs.declared.op.Op.{Op}
use Rattle.rules_bodies.specs.Flat.{NumberedBodies}
use Rattle.rules_bodies.specs.Fetch.{ops_of}
use Rattle.rules_bodies.specs.Next.{capped}
use Rattle.rules_bodies.specs.Stands.{IsPlaced}
use Rattle.rules_machine.specs.declared.frame.BodyOf.TheVariants as body_of
use Rattle.rules_machine.specs.declared.frame.FrameKind.{FrameKind}
use Rattle.rules_machine.specs.declared.frame.FrameKind.TheVariants as frame
use Rattle.rules_machine.specs.State.{Frame, Thread}
use Rattle.rules_machine.specs.Threads.{is_main, is_signal, top_kind}
use Rattle.rules_machine.specs.Turns.{answered, frames_answered}
use Rattle.rules_machine.specs.Waking.{new_frame}
use Rattle.rules_machine.specs.Declarations.{cleanups_of, handlers_of, threads_of}
use Rattle.rules_machine.specs.Cancellation.{runs_cleanup, runs_cleanup_if, without_cleanup}
use Rattle.rules_flat_code.specs.EachCall.{EachMade}
use Rattle.rules_flat_code.specs.FlatBodies.{code_of, flat_bodies}
use Rattle.rules_flat_code.specs.KnownCalls.{objects_of}
use Rattle.rules_flat_code.specs.Placed.{ArePlaced, cursor_of}
use Rattle.laws_threads.specs.EachThread.{Closed, Given}
use Rattle.laws_threads.specs.Frames.{AreDeclared, AreInOrder, CallStands, LiesOver, rank}
use Rattle.laws_threads.specs.Placeable.{IsPlaceable}
use Rattle.laws_threads.proofs.Begins.{cleanup_begins, handler_begins, thread_begins}
use Rattle.laws_threads.proofs.Plain.{IsPlain, cleanup_plain, handler_plain}

-- ---- what is kept of each frame and thread

-- the body of another frame than the main one pushes and pops nothing
pub record FrameStands (code : NumberedBodies (List Op)) (f : Frame Cursor) : Type 0 where
  pub placed : IsPlaced code (cursor_of f)
  pub plain : is_main f.kind ≡ false → EachMade IsPlain (ops_of code f.place.body)

abbrev pub AllStand : NumberedBodies (List Op) → List (Frame Cursor) → Type 0
AllStand code [] = Unit {0}
AllStand code (f ∷ fs) = FrameStands code f × AllStand code fs

pub record Stands (code : NumberedBodies (List Op)) (declared : ℕ) (th : Thread Cursor) : Type 0 where
  pub all : AllStand code th.frames
  pub ordered : AreInOrder th.frames
  pub cleanups : AreDeclared declared th.cleanups

pub placed_same : (code : NumberedBodies (List Op)) (c d : Cursor) → IsPlaced code c → d.body ≡ c.body → d.pc ≡ c.pc → d.counts.items ≡ c.counts.items → d.register ≡ c.register → IsPlaced code d
placed_same code c d p b pc counts register = record {
  body = p.body;
  is_body = rw b p.is_body;
  place = p.place;
  stands = record { at = pc ∙ p.stands.at; passes = counts ∙ p.stands.passes; register = rw register p.stands.register };
}

pub all_placed : (code : NumberedBodies (List Op)) (fs : List (Frame Cursor)) → AllStand code fs → ArePlaced code fs
all_placed code [] h = tt
all_placed code (f ∷ fs) h = (h.0.placed, all_placed code fs h.1)

-- ---- the order

module _ {P : Type 0} where
  over_main : (fs : List (Frame P)) → top_kind fs ≡ frame.Main → LiesOver frame.Cleanup fs
  over_main [] e = tt
  over_main (f ∷ fs) e = rw e (omega arith)

  over_unsignalled : (fs : List (Frame P)) → is_signal (top_kind fs) ≡ false → LiesOver frame.Signal fs
  over_unsignalled [] e = tt
  over_unsignalled (f ∷ fs) e = by_kind f.kind e
    where
      by_kind : (kind : FrameKind) → is_signal kind ≡ false → rank kind < 2
      by_kind frame.Main e = omega arith
      by_kind frame.Cleanup e = omega arith
      by_kind frame.Signal e = absurd (grind arith)

  -- a frame has at most as many below it as its kind says
  few_below : (f : Frame P) (fs : List (Frame P)) → AreInOrder (f ∷ fs) → length (f ∷ fs) ≤ rank f.kind + 1
  few_below f [] h = omega arith
  few_below f (g ∷ fs) (over, rest) = let k = few_below g fs rest in omega (arith, k, over)

  pub at_most_three : (fs : List (Frame P)) → AreInOrder fs → length fs ≤ 3
  at_most_three [] h = omega arith
  at_most_three (f ∷ fs) h = let k = few_below f fs h in let r = top_rank f.kind in omega (arith, k, r)
    where
      top_rank : (kind : FrameKind) → rank kind ≤ 2
      top_rank frame.Main = omega arith
      top_rank frame.Cleanup = omega arith
      top_rank frame.Signal = omega arith

  pub at_most_two : (fs : List (Frame P)) → AreInOrder fs → is_signal (top_kind fs) ≡ false → length fs ≤ 2
  at_most_two [] h e = omega arith
  at_most_two (f ∷ fs) h e = let k = few_below f fs h in let r = over_unsignalled (f ∷ fs) e in omega (arith, k, r)

  pub at_most_one : (fs : List (Frame P)) → AreInOrder fs → top_kind fs ≡ frame.Main → length fs ≤ 1
  at_most_one [] h e = omega arith
  at_most_one (f ∷ fs) h e = let k = few_below f fs h in let r : rank f.kind ≡ 0 = ap rank e in omega (arith, k, r)

not_main : (kind : FrameKind) → kind ≡ frame.Main → is_main kind ≡ false → ⊥
not_main kind e other = let a : is_main kind ≡ true = ap is_main e in absurd (grind arith)

-- ---- changes

module _ (script : Script) (ok : IsPlaceable script) where
  abbrev code : NumberedBodies (List Op)
  code = code_of script

  abbrev declared : ℕ
  declared = length (cleanups_of script)

  abbrev pub of_script : Given Cursor
  of_script = record {
    bodies = flat_bodies (code_of script);
    count = length (threads_of script);
    Handles = λ h. h < length (handlers_of script);
    Known = λ th c. CallStands (objects_of script) (top_kind th.frames) c;
    Waits = λ w. Unit {0};
    Sends = λ signal. Unit {0};
    Pends = λ r. Unit {0};
  }

  abbrev pub StandsIn : ℕ → ℕ → Thread Cursor → Type 0
  StandsIn now u th = Stands (code_of script) (length (cleanups_of script)) th

  same : (th to : Thread Cursor) → to.frames ≡ th.frames → to.cleanups ≡ th.cleanups → Stands code declared th → Stands code declared to
  same th to frames cleanups h = record { all = rw frames h.all; ordered = rw frames h.ordered; cleanups = rw cleanups h.cleanups }

  all_answered : (r : Res) (value : ℕ) (fs : List (Frame Cursor)) → AllStand code fs → AllStand code (frames_answered r value fs)
  all_answered r value [] h = tt
  all_answered r value (f ∷ fs) h = (record { placed = placed_same code _ _ h.0.placed refl refl refl refl; plain = h.0.plain }, h.1)

  order_answered : (r : Res) (value : ℕ) (fs : List (Frame Cursor)) → AreInOrder fs → AreInOrder (frames_answered r value fs)
  order_answered r value [] h = tt
  order_answered r value (f ∷ fs) h = h

  kind_answered : (r : Res) (value : ℕ) (fs : List (Frame Cursor)) → top_kind (frames_answered r value fs) ≡ top_kind fs
  kind_answered r value [] = refl
  kind_answered r value (f ∷ fs) = refl

  -- an answer, whatever else but the frames and the cleanup handlers changes
  stands_answered : (r : Res) (value : ℕ) (th to : Thread Cursor) → to.frames ≡ frames_answered r value th.frames → to.cleanups ≡ th.cleanups → Stands code declared th → Stands code declared to
  stands_answered r value th to frames cleanups h = record {
    all = rw frames (all_answered r value th.frames h.all);
    ordered = rw frames (order_answered r value th.frames h.ordered);
    cleanups = rw cleanups h.cleanups;
  }

  -- a new frame on top
  on_top_stands : (f : Frame Cursor) (th to : Thread Cursor) → to.frames ≡ f ∷ th.frames → to.cleanups ≡ th.cleanups → FrameStands code f → LiesOver f.kind th.frames → Stands code declared th → Stands code declared to
  on_top_stands f th to frames cleanups new over h = record { all = rw frames (new, h.all); ordered = rw frames (over, h.ordered); cleanups = rw cleanups h.cleanups }

  pub cleanup_stands : (u : ℕ) → u < length (cleanups_of script) → FrameStands (code_of script) (new_frame (flat_bodies (code_of script)) frame.Cleanup (body_of.Cleanup u) 0)
  cleanup_stands u lt = record { placed = placed_same code _ _ (cleanup_begins script ok u lt) refl refl refl refl; plain = λ inner. cleanup_plain script ok.guards u }

  handler_stands : (n value : ℕ) → n < length (handlers_of script) → FrameStands code (new_frame (flat_bodies code) frame.Signal (body_of.Handler n) (capped value))
  handler_stands n value lt = record {
    placed = placed_same code _ _ (handler_begins script ok n (capped value) lt (omega arith)) refl refl refl refl;
    plain = λ inner. handler_plain script ok.guards n;
  }

  pub dropped_declared : (us : List ℕ) → AreDeclared (length (cleanups_of script)) us → AreDeclared (length (cleanups_of script)) (drop 1 us)
  dropped_declared [] h = tt
  dropped_declared (u ∷ us) h = h.1

  -- the first of some cleanup handlers begins over the main frame
  pub runs_stands : (us : List ℕ) (th : Thread Cursor) → AreDeclared (length (cleanups_of script)) us → top_kind th.frames ≡ frame.Main → Stands (code_of script) (length (cleanups_of script)) th →
      Stands (code_of script) (length (cleanups_of script)) (runs_cleanup (flat_bodies (code_of script)) us th)
  runs_stands [] th there main h = h
  runs_stands (u ∷ us) th there main h = on_top_stands _ th _ refl refl (cleanup_stands u there.0) (over_main th.frames main) h

  runs_if_stands : (runs : Bool) (us : List ℕ) (th : Thread Cursor) → AreDeclared declared us → top_kind th.frames ≡ frame.Main → Stands code declared th → Stands code declared (runs_cleanup_if runs (flat_bodies code) us th)
  runs_if_stands true us th there main h = runs_stands us th there main h
  runs_if_stands false us th there main h = h

  pops_stands : (runs : Bool) (th : Thread Cursor) → top_kind th.frames ≡ frame.Main → Stands code declared th → Stands code declared (runs_cleanup_if runs (flat_bodies code) th.cleanups (answered res.Zero 0 (without_cleanup th)))
  pops_stands runs th main h =
      runs_if_stands runs th.cleanups (answered res.Zero 0 (without_cleanup th)) h.cleanups (kind_answered res.Zero 0 th.frames ∙ main) (record {
        all = all_answered res.Zero 0 th.frames h.all;
        ordered = order_answered res.Zero 0 th.frames h.ordered;
        cleanups = dropped_declared th.cleanups h.cleanups;
      })

  all_dropped : (fs : List (Frame Cursor)) → AllStand code fs → AllStand code (drop 1 fs)
  all_dropped [] h = tt
  all_dropped (f ∷ fs) h = h.1

  order_dropped : (fs : List (Frame Cursor)) → AreInOrder fs → AreInOrder (drop 1 fs)
  order_dropped [] h = tt
  order_dropped (f ∷ fs) h = h.1

  pub stands_closed : Closed of_script StandsIn
  stands_closed = record {
    answers = λ now u th r value q. stands_answered r value th _ refl refl q;
    wakes = λ now u th r value q. stands_answered r value th _ refl refl q;
    waits = λ now u th caller w known makes q. same th _ refl refl q;
    again = λ now u th w c k how waits may is q. same th _ refl refl q;
    waiting = λ now u th w q is. tt;
    moves = λ now u th move q. same th _ refl refl q;
    starts = λ now u th mask lt q. record {
      all = (record { placed = placed_same code _ _ (thread_begins script ok u lt) refl refl refl refl; plain = λ inner. absurd (not_main frame.Main refl inner) }, tt);
      ordered = (tt, tt);
      cleanups = q.cleanups;
    };
    activates = λ now u th q. same th _ refl refl q;
    refills = λ now u th q. same th _ refl refl q;
    plans = λ now u th q. same th _ refl refl q;
    prices = λ now u th caller p known q. same th _ refl refl q;
    renews = λ now u th caller new known q. same th _ refl refl q;
    slices = λ now u th q. same th _ refl refl q;
    joins = λ now u th caller joiner known q. same th _ refl refl q;
    joined = λ now u th t is q. same th _ refl refl q;
    unjoins = λ now u th q. same th _ refl refl q;
    masks = λ now u th mask q. same th _ refl refl q;
    requests = λ now u th caller known q. same th _ refl refl q;
    enables = λ now u th on known q. same th _ refl refl q;
    pushes = λ now u th c known q. record { all = q.all; ordered = q.ordered; cleanups = (known.objects, q.cleanups) };
    pops = λ now u th runs known q. pops_stands runs th (known.guards refl) q;
    catches = λ now u th h value known free q. on_top_stands _ th _ refl refl (handler_stands h value known) (over_unsignalled th.frames free) q;
    leaves = λ now u th inner q. record { all = all_dropped th.frames q.all; ordered = order_dropped th.frames q.ordered; cleanups = q.cleanups };
    ending = λ now u th value may q. same th _ refl refl q;
    ends = λ now u th main q. record { all = tt; ordered = tt; cleanups = q.cleanups };
    notifies = λ caller q signal value known. tt;
    pends = λ r serial from. tt;
  }
