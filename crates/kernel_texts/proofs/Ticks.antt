-- The lines of the numbers of one thread.
use Rattle.std.proofs.Common.{◌≡◌, ◌<◌, ℕ, Bool, List, Option, [], ◌∷◌, ◌++◌, ap, append_assoc, arith, flat_map, get_or, length, refl, sym, true, ◌∙◌}
use Rattle.std.specs.Prelude.{if◌then◌else◌}
use Rattle.words_script.specs.declared.decl.Decl.{Decl}
use Rattle.words_script.specs.declared.policy.Policy.{Policy}
use Rattle.rules_server.specs.Server.{ServerState}
use Rattle.rules_machine.specs.State.{Frame, Thread}
use Rattle.rules_machine.specs.Threads.{is_live}
use Rattle.rules_facts.specs.Fact.{Number, counted}
use Rattle.rules_facts.specs.Numbers.{budget_numbers, frame_numbers, left_numbers, numbers_of, slice_numbers}
use Rattle.kernel_texts.specs.Lines.{number_text}

pub flat_map-append : {X Y : Type 0} (f : X → List Y) (xs ys : List X) → flat_map f (xs ++ ys) ≡ flat_map f xs ++ flat_map f ys
flat_map-append f [] ys = refl
flat_map-append {Y = Y} f (x ∷ xs) ys = ap (λ (t : List Y). f x ++ t) (flat_map-append f xs ys) ∙ sym (append_assoc (f x) (flat_map f xs) (flat_map f ys))

abbrev pub text_of : List Decl → List Number → List ℕ
text_of decls numbers = flat_map (number_text decls) numbers

module _ {P : Type 0} (decls : List Decl) (t : ℕ) where
  pub top_text : (ticks : ℕ) (frames : List (Frame P)) (top d : Frame P) → 0 < length frames → top ≡ get_or frames 0 d
      → number_text decls (counted t ticks top.register top.result top.value) ++ flat_map (number_text decls) (left_numbers t top.left)
      ≡ flat_map (number_text decls) (frame_numbers t ticks frames)
  top_text ticks [] top d some is = absurd (omega arith)
  top_text ticks (f ∷ fs) top d some is =
      ap (λ (x : Frame P). number_text decls (counted t ticks x.register x.result x.value) ++ flat_map (number_text decls) (left_numbers t x.left)) is

  of_live : (th : Thread P) → is_live th.status ≡ true
      → text_of decls (frame_numbers t th.ticks th.frames) ++ (text_of decls (slice_numbers t th.slice th.policy) ++ text_of decls (budget_numbers t th.server))
      ≡ text_of decls (if is_live th.status then numbers_of t th else [])
  of_live th live =
      let frames = frame_numbers t th.ticks th.frames in
      let slice = slice_numbers t th.slice th.policy in
      let budget = budget_numbers t th.server in
      sym (append_assoc (text_of decls frames) (text_of decls slice) (text_of decls budget))
      ∙ ap (λ (x : List ℕ). x ++ text_of decls budget) (sym (flat_map-append (number_text decls) frames slice))
      ∙ sym (flat_map-append (number_text decls) (frames ++ slice) budget)
      ∙ ap (λ (b : Bool). text_of decls (if b then numbers_of t th else [])) (sym live)

  pub live_text : (th : Thread P) → is_live th.status ≡ true → (ticks slice : ℕ) (frames : List (Frame P)) (policy : Policy) (server : Option ServerState)
      → ticks ≡ th.ticks → slice ≡ th.slice → frames ≡ th.frames → policy ≡ th.policy → server ≡ th.server
      → text_of decls (frame_numbers t ticks frames) ++ (text_of decls (slice_numbers t slice policy) ++ text_of decls (budget_numbers t server))
      ≡ text_of decls (if is_live th.status then numbers_of t th else [])
  live_text th live ticks slice frames policy server is_ticks is_slice is_frames is_policy is_server =
      ap (λ (x : ℕ). text_of decls (frame_numbers t x frames) ++ (text_of decls (slice_numbers t slice policy) ++ text_of decls (budget_numbers t server))) is_ticks
      ∙ ap (λ (x : List (Frame P)). text_of decls (frame_numbers t th.ticks x) ++ (text_of decls (slice_numbers t slice policy) ++ text_of decls (budget_numbers t server))) is_frames
      ∙ ap (λ (x : ℕ). text_of decls (frame_numbers t th.ticks th.frames) ++ (text_of decls (slice_numbers t x policy) ++ text_of decls (budget_numbers t server))) is_slice
      ∙ ap (λ (x : Policy). text_of decls (frame_numbers t th.ticks th.frames) ++ (text_of decls (slice_numbers t th.slice x) ++ text_of decls (budget_numbers t server))) is_policy
      ∙ ap (λ (x : Option ServerState). text_of decls (frame_numbers t th.ticks th.frames) ++ (text_of decls (slice_numbers t th.slice th.policy) ++ text_of decls (budget_numbers t x))) is_server
      ∙ of_live th live
