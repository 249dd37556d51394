-- The lines of tasks, one at a time.
use Rattle.std.proofs.Common.{◌≡◌, ◌<◌, ℕ, zero, suc, ◌+◌, List, [], ◌∷◌, ◌++◌, length, take, drop, get_or, refl, sym, ◌∙◌, ap, subst, arith, append_assoc, append-nil, min, Option}
use Rattle.std.proofs.Math.Seq.{take-append-add}
use Rattle.std.proofs.lemmas.List.{take_min, take-append-le}
use Rattle.std.specs.Io.KnownBytes.{Appends}
use Rattle.parts_io.specs.Bytes.{AppendsPart}
use Rattle.parts_io.proofs.Known.{appends_more}
use Rattle.tool_times.specs.declared.task.Task.{Task}
use Rattle.tool_times.specs.Tasks.{no_task, task_at}
use Rattle.tool_times.specs.Schedule.{finish_by}
use Rattle.tool_times.specs.Answer.{task_line, task_lines, response_lines}

-- the line of the task with number k among all
abbrev pub line_at : ℕ → List Task → ℕ → Task → List ℕ
line_at bound all k t = task_line t.name (finish_by bound all k)

lines_more : (bound : ℕ) (all : List Task) (k i : ℕ) (tasks : List Task) → i < length tasks →
    task_lines bound all k (take (i + 1) tasks) ≡ task_lines bound all k (take i tasks) ++ line_at bound all (k + i) (get_or tasks i no_task)
lines_more bound all k i [] lt = absurd (omega arith)
lines_more bound all k zero (t ∷ tasks) lt = let e : k + 0 ≡ k = omega arith in rw e (append-nil (line_at bound all k t))
lines_more bound all k (suc i) (t ∷ tasks) lt =
    let one : suc i + 1 ≡ suc (i + 1) = omega arith in
    let at : k + suc i ≡ (k + 1) + i = omega arith in
    let rest = lines_more bound all (k + 1) i tasks (omega arith) in
    rw (one, at) (ap (λ r. line_at bound all k t ++ r) rest ∙
    sym (append_assoc (line_at bound all k t) (task_lines bound all (k + 1) (take i tasks)) (line_at bound all ((k + 1) + i) (get_or tasks i no_task))))

-- the lines of the first i tasks
abbrev pub first_lines : ℕ → List Task → ℕ → List ℕ
first_lines bound all i = task_lines bound all 0 (take i all)

pub first_lines_more : (bound : ℕ) (all : List Task) (i : ℕ) → i < length all →
    first_lines bound all (i + 1) ≡ first_lines bound all i ++ line_at bound all i (task_at all i)
first_lines_more bound all i lt =
    let here : 0 + i ≡ i = omega arith in
    rw here at (lines_more bound all 0 i all lt)

-- the lines from task i on
lines_split : (bound : ℕ) (all : List Task) (k i : ℕ) (tasks : List Task) →
    task_lines bound all k tasks ≡ task_lines bound all k (take i tasks) ++ task_lines bound all (k + i) (drop i tasks)
lines_split bound all k zero tasks = let e : k + 0 ≡ k = omega arith in rw e refl
lines_split bound all k (suc i) [] = refl
lines_split bound all k (suc i) (t ∷ tasks) =
    let at : k + suc i ≡ (k + 1) + i = omega arith in
    let rest = lines_split bound all (k + 1) i tasks in
    rw at (ap (λ r. line_at bound all k t ++ r) rest ∙
    sym (append_assoc (line_at bound all k t) (task_lines bound all (k + 1) (take i tasks)) (task_lines bound all ((k + 1) + i) (drop i tasks))))

-- a part of the front is a part of the whole
part_front : (old new : Option (List ℕ)) (xs ys : List ℕ) → AppendsPart old new xs → AppendsPart old new (xs ++ ys)
part_front old new xs ys (k, h) =
    let e : take k xs ≡ take (min k (length xs)) (xs ++ ys) = sym (take_min k xs) ∙ sym (take-append-le (min k (length xs)) xs ys (omega arith)) in
    (min k (length xs), subst (λ t. Appends old new t) e h)

-- the front, and then a part of the back, is a part of the whole
part_back : (a b c : Option (List ℕ)) (xs ys : List ℕ) → Appends a b xs → AppendsPart b c ys → AppendsPart a c (xs ++ ys)
part_back a b c xs ys first (j, h) =
    (length xs + j, subst (λ t. Appends a c t) (sym (take-append-add xs ys j)) (appends_more a b c xs (take j ys) first h))

-- Where the line of task i was written in part, the lines of all tasks were.
pub stopped_at : (bound : ℕ) (all : List Task) (i : ℕ) (a b c : Option (List ℕ)) → i < length all →
    Appends a b (first_lines bound all i) → AppendsPart b c (line_at bound all i (task_at all i)) → AppendsPart a c (response_lines bound all)
stopped_at bound all i a b c lt first part =
    let more = rw (sym (first_lines_more bound all i lt)) at (part_back a b c (first_lines bound all i) (line_at bound all i (task_at all i)) first part) in
    let whole : response_lines bound all ≡ first_lines bound all (i + 1) ++ task_lines bound all (0 + (i + 1)) (drop (i + 1) all) =
    lines_split bound all 0 (i + 1) all in
    rw whole (part_front a c (first_lines bound all (i + 1)) (task_lines bound all (0 + (i + 1)) (drop (i + 1) all)) more)

-- Where the line of task i was written behind those before it, so many more were.
pub went_on : (bound : ℕ) (all : List Task) (i : ℕ) (a b c : Option (List ℕ)) → i < length all →
    Appends a b (first_lines bound all i) → Appends b c (line_at bound all i (task_at all i)) → Appends a c (first_lines bound all (i + 1))
went_on bound all i a b c lt first line =
    rw (first_lines_more bound all i lt) (appends_more a b c (first_lines bound all i) (line_at bound all i (task_at all i)) first line)
