use Rattle.std.proofs.Common.{◌≡◌, None, Some, option_map, refl, sym, ap, ◌∙◌}
use Rattle.std.proofs.lemmas.Result.{IfOk-weaker}
use Rattle.udt_model.specs.Lines.{read_line}
use Rattle.udt_model.specs.Script.{played_line, on_line}
use Rattle.udt_script.specs.CodeLines.{line_of}
use Rattle.udt_world.proofs.GivenLemmas.{line_named}
use Rattle.udt_world.proofs.WorldLemmas.{played_none, played_some}
use Rattle.udt_world.proofs.world.play_line.Goals as goal

-- the line can't be read
pub returns-in-None-clause-done : goal.returns-in-None-clause-done
returns-in-None-clause-done g c = λ n shows.
    let e : played_line g.C.Control.ways n c.args.line.now ≡ None =
    played_none g.C.Control.ways n c.args.line.now line_of c.in_ok-read_line.field-0
    c.in_ok-read_line.ensures.value c.in-None.is in
    rw e (shows, refl)

-- the names that it gives are such as begin with a letter
pub do_line-requires-clause-names : goal.do_line-requires-clause-names
do_line-requires-clause-names g c =
    let e : read_line c.args.line.now ≡ Some (line_of c.in-Some.read) =
    sym c.in_ok-read_line.ensures.value ∙ ap (option_map line_of) c.in-Some.is in
    (line_named c.args.line.now).given (line_of c.in-Some.read) e

-- it does what it says
pub returns-in-Some-clause-done : goal.returns-in-Some-clause-done
returns-in-Some-clause-done g c =
    IfOk-weaker c.do_line.result _ _
    (λ did does n shows.
    let e : played_line g.C.Control.ways n c.args.line.now ≡ on_line g.C.Control.ways n (line_of c.in-Some.read) =
    played_some g.C.Control.ways n c.args.line.now line_of c.in_ok-read_line.field-0
    c.in_ok-read_line.ensures.value c.in-Some.read c.in-Some.is in
    rw e (does n shows))
    c.do_line.ensures.done
