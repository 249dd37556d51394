-- A script that is read has few objects of each kind.
use Rattle.std.proofs.Common.{List, Ok, subst, ℕ, ◌≡◌, ◌≤◌}
use Rattle.words_script.specs.declared.decl.Script.{Script}
use Rattle.words_script.specs.declared.name_kind.NameKind.TheVariants as kind
use Rattle.script_table.specs.Build.{script_of}
use Rattle.script_table.specs.Heading.{Beginning}
use Rattle.script_table.specs.Names.{Entry, declared}
use Rattle.script_table.specs.Read.{read, said_in}
use Rattle.script_table.specs.Structure.{Said}
use Rattle.script_table.specs.Table.{patterns}
use Rattle.rules_flat_code.specs.KnownCalls.{Objects}
use Rattle.laws_canonical_text.proofs.Accepted.{is_read}
use Rattle.laws_canonical_text.proofs.Again.{statements}
use Rattle.laws_canonical_text.proofs.Known.{AllKnown}
use Rattle.laws_canonical_text.proofs.Table.{the_table}
use Rattle.laws_bounds.proofs.Objects.{declared_few, objects_same}
use Rattle.kernel_leaps.specs.Shown.{HasFewObjects}

few_of_names : (script : Script) (es : List Entry) → AllKnown es script.decls → HasFewObjects script
few_of_names script es known = record {
  mutexes = subst (λ (o : Objects). o.mutexes ≤ 256) (objects_same script) (declared_few es script.decls known kind.Mutex);
  conditions = declared_few es script.decls known kind.Cond;
  semaphores = subst (λ (o : Objects). o.semaphores ≤ 256) (objects_same script) (declared_few es script.decls known kind.Sem);
}

pub few_objects : (text : List ℕ) (script : Script) → read patterns text ≡ Ok script → HasFewObjects script
few_objects text script e =
    let read' = is_read patterns the_table text script e in
    let b : Beginning = read'.part in
    let ss : List Said = said_in (patterns b.version) b in
    let es : List Entry = (declared ss).names in
    let own : Script = script_of b.version es ss in
    let means : own ≡ script = read'.means in
    let known : AllKnown es own.decls = (statements patterns the_table text script e).known in
    subst HasFewObjects means (few_of_names own es known)
