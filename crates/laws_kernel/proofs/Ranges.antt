-- The flat code of a script keeps the ranges of its calls.
use Rattle.std.proofs.Common.{List, [], ◌∷◌, ◌++◌}
use Rattle.std.specs.Prelude.{All}
use Rattle.std.proofs.lemmas.List.Elements.{All-append, All-cons, All-nil}
use Rattle.words_script.specs.Block.{Adding, Block, Guarding, Looping, Making, Nothing, Running, Setting, Taking, Testing}
use Rattle.words_script.specs.declared.decl.Decl.{Decl}
use Rattle.words_script.specs.declared.decl.Decl.TheVariants as decl
use Rattle.words_script.specs.declared.decl.Kind.TheVariants as kind
use Rattle.words_script.specs.declared.decl.Script.{Script}
use Rattle.rules_bodies.specs.declared.unit.Unit as units
use Rattle.rules_bodies.specs.declared.unit.Unit.TheVariants as unit
use Rattle.rules_bodies.specs.Fetch.{fetched}
use Rattle.rules_bodies.specs.Flat.{NumberedBodies, bodies_of, no_bodies, with_decl, with_decls}
use Rattle.rules_machine.specs.WellFormed.{BlockFits, CallFits, DeclsFit}
use Rattle.rules_flat_code.specs.EachCall.{EachCall}
use Rattle.rules_flat_code.specs.FlatBodies.{code_of, cursor_at, flat_bodies}
use Rattle.rules_moves.specs.UnitRanges.{BodiesFit, UnitFits}
use Rattle.laws_threads.proofs.MadeCalls.{UnitMakes, all_made, fetched_makes}

each_fits : (b : Block) → BlockFits b → EachCall CallFits b
each_fits Nothing h = tt
each_fits (Running n rest) h = each_fits rest h
each_fits (Making c rest) h = (h.0, each_fits rest h.1)
each_fits (Setting n rest) h = each_fits rest h
each_fits (Adding n rest) h = each_fits rest h
each_fits (Taking rest) h = each_fits rest h
each_fits (Testing named equal inner rest) h = (each_fits inner h.0, each_fits rest h.1)
each_fits (Looping times inner rest) h = (each_fits inner h.0, each_fits rest h.1)
each_fits (Guarding cleanup run inner rest) h = (tt, tt, each_fits inner h.0, each_fits rest h.1)

abbrev Fit : List Block → Type 0
Fit all = All (EachCall CallFits) all

one_more : (all : List Block) (body : Block) → Fit all → BlockFits body → Fit (all ++ body ∷ [])
one_more all body h fits = All-append (EachCall CallFits) all (body ∷ []) h (All-cons (EachCall CallFits) body [] (each_fits body fits) (All-nil (EachCall CallFits)))

abbrev tree : Block → Block
tree body = body

all_fit : (decls : List Decl) (b : NumberedBodies Block) → Fit b.all → DeclsFit decls → Fit (with_decls tree decls b).all
all_fit [] b h fits = h
all_fit (decl.Named name (kind.Thread policy start body) ∷ decls) b h fits = all_fit decls (with_decl tree (decl.Named name (kind.Thread policy start body)) b) (one_more b.all body h fits.0.1) fits.1
all_fit (decl.Named name (kind.Handler body) ∷ decls) b h fits = all_fit decls (with_decl tree (decl.Named name (kind.Handler body)) b) (one_more b.all body h fits.0) fits.1
all_fit (decl.Named name (kind.Cleanup body) ∷ decls) b h fits = all_fit decls (with_decl tree (decl.Named name (kind.Cleanup body)) b) (one_more b.all body h fits.0) fits.1
all_fit (decl.Named name (kind.Mutex protocol recursive) ∷ decls) b h fits = all_fit decls b h fits.1
all_fit (decl.Named name kind.Cond ∷ decls) b h fits = all_fit decls b h fits.1
all_fit (decl.Named name (kind.Sem value) ∷ decls) b h fits = all_fit decls b h fits.1
all_fit (decl.Named name (kind.Queue depth longest nonblock) ∷ decls) b h fits = all_fit decls b h fits.1
all_fit (decl.Named name (kind.Timer signal value real) ∷ decls) b h fits = all_fit decls b h fits.1
all_fit (decl.Action signal handler ∷ decls) b h fits = all_fit decls b h fits.1

unit_fits : (u : units.Unit) → UnitMakes CallFits u → UnitFits u
unit_fits (unit.Run n) h = tt
unit_fits (unit.Make c) h = h
unit_fits unit.Jump h = tt
unit_fits unit.Finish h = tt

pub flat_bodies_fit : (script : Script) → DeclsFit script.decls → BodiesFit (flat_bodies (code_of script))
flat_bodies_fit script fits body place seen =
    let code = code_of script in
    unit_fits (fetched code (cursor_at place seen)).1
    (fetched_makes CallFits code (cursor_at place seen) (all_made CallFits (bodies_of script.decls).all place.body (all_fit script.decls no_bodies (All-nil (EachCall CallFits)) fits)))
