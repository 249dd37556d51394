-- One line of phase 3.
use Rattle.std.proofs.Common.{◌≡◌, ◌≤◌, ℕ, ◌+◌, ◌<◌, List, [], ◌∷◌, ◌++◌, length, get_or, take, drop, true, false, Some, sym, ap, ◌∙◌, arith}
use Rattle.std.specs.Prelude.{slice_get, map, nat_le}
use Rattle.std.proofs.lemmas.Bool.Decides.{nat_tests}
use Rattle.std.proofs.lemmas.List.{map-append, length-map}
use Rattle.tool_audit.specs.declared.fault.HeadFault.TheVariants.{NumberRange, TooMany, ServerRange}
use Rattle.tool_audit.specs.Faults.{Fault, faults_at}
use Rattle.tool_audit.specs.Head.{Said, in_numbers, in_ranges, phase_three, range_faults, servers_of}
use Rattle.tool_audit.specs.Watch.{Watched, watched}
use Rattle.tool_audit.proofs.Phases.{ahead, behind}

-- the line at i, with what is kept of those before it
pub record Stands (xs : List Said) (i : ℕ) (s : Said) (each : List Watched) (all : List Fault) : Type 0 where
  pub within : i < length xs
  pub stands : s ≡ get_or xs i s
  pub kept : each ≡ map watched (servers_of (take i xs))
  pub all_faults : phase_three (take i xs) (drop i xs) ≡ all

module _ (xs : List Said) (i : ℕ) (s : Said) (each : List Watched) (all : List Fault) (at : Stands xs i s each all) where
  step : faults_at s.line (range_faults (take i xs) s) ++ phase_three (take (i + 1) xs) (drop (i + 1) xs) ≡ all
  step = rw (behind xs i s at.within at.stands) (rw (ahead xs i s at.within at.stands) at at.all_faults)

  as_many : length each ≡ length (take i xs)
  as_many = ap length at.kept ∙ (length-map (servers_of (take i xs)) watched ∙ length-map (take i xs) (λ (x : Said). x.server))

  pub is_number : in_numbers s.server.limits ≡ false → slice_get all 0 ≡ Some (record { line = s.line; kind = NumberRange })
  is_number none = let here = rw none at step in ap (λ (fs : List Fault). slice_get fs 0) (sym here)

  full : 256 ≤ length each → nat_le 256 (length (take i xs)) ≡ true
  full many = let e = as_many in grind (arith, nat_tests, many, e)

  has_room : length each < 256 → nat_le 256 (length (take i xs)) ≡ false
  has_room few = let e = as_many in grind (arith, nat_tests, few, e)

  pub is_many : in_numbers s.server.limits ≡ true → 256 ≤ length each → slice_get all 0 ≡ Some (record { line = s.line; kind = TooMany })
  is_many small many = let here = rw (small, full many) at step in ap (λ (fs : List Fault). slice_get fs 0) (sym here)

  pub is_server : in_numbers s.server.limits ≡ true → length each < 256 → in_ranges s.server.limits ≡ false → slice_get all 0 ≡ Some (record { line = s.line; kind = ServerRange })
  is_server small few wrong = let here = rw (small, has_room few, wrong) at step in ap (λ (fs : List Fault). slice_get fs 0) (sym here)

  pub past : in_numbers s.server.limits ≡ true → length each < 256 → in_ranges s.server.limits ≡ true → phase_three (take (i + 1) xs) (drop (i + 1) xs) ≡ all
  past small few right = rw (small, has_room few, right) at step

  pub one_more : each ++ watched s.server ∷ [] ≡ map watched (servers_of (take (i + 1) xs))
  one_more =
      let servers : servers_of (take (i + 1) xs) ≡ servers_of (take i xs) ++ s.server ∷ [] =
      ap servers_of (behind xs i s at.within at.stands) ∙ map-append (λ (x : Said). x.server) (take i xs) (s ∷ []) in
      ap (λ (ws : List Watched). ws ++ watched s.server ∷ []) at.kept
      ∙ sym (ap (map watched) servers ∙ map-append watched (servers_of (take i xs)) (s.server ∷ []))
