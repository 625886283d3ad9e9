use Rattle.std.proofs.Common.{◌≡◌, Some, Err, rules}
use Rattle.drawing.specs.Records.{wrong}
use Rattle.drawing.specs.Reading.{verdict_of}
use Rattle.drawing.proofs.Front.{judged_record}
use Rattle.drawing.proofs.reader.Reader.judge.Goals as goal

pub returns-in_err-check-clause-value : goal.returns-in_err-check-clause-value
returns-in_err-check-clause-value c =
    let fault = c.in_err-check.field-0.0 in
    let found : wrong c.in_ok-kind.kind c.in_ok-bytes.bytes.now c.args.self.now.junctions ≡ Some fault =
    search (rules, c.in_err-check.ensures) in
    let said : verdict_of c.from_residual-in_err-check.result ≡ Err fault = search rules in
    let judged = judged_record c.rest-rest.result.now c.in-Some.letter.now c.in_ok-kind.kind c.args.self.now.stage c.in_ok-stage.stage
    c.args.self.now.junctions (search rules) (search rules) (search rules) (search rules) in
    search (rules, judged, found, said)
