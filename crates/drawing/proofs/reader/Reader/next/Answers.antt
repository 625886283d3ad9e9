use Rattle.std.proofs.Common.{Some, None, Ok, Err, ap, rules}
use Rattle.drawing.specs.Records.{said}
use Rattle.drawing.specs.Reading.{state_of}
use Rattle.drawing.specs.Ahead.{records_left}
use Rattle.drawing.proofs.Front.{spelt_front}
use Rattle.drawing.proofs.Onward.{onward}
use Rattle.drawing.proofs.Spelled.{tells_at}
use Rattle.drawing.proofs.reader.Reader.next.Goals as goal

pub returns-in-Err-clause-ahead : goal.returns-in-Err-clause-ahead
returns-in-Err-clause-ahead c =
    let here = c.args.self.now in
    onward here.input.now (state_of here) (state_of here) (Err c.at.result) (search rules)

pub returns-in-Ok-None-clause-ahead : goal.returns-in-Ok-None-clause-ahead
returns-in-Ok-None-clause-ahead c =
    let here = c.args.self.now in
    onward here.input.now (state_of here) (state_of here) (Ok None) (search rules)

pub returns-in-Ok-None-clause-tells : goal.returns-in-Ok-None-clause-tells
returns-in-Ok-None-clause-tells c =
    let here = c.args.self.now in
    tells_at here.input.now (state_of here) (Ok None) here.place (search rules) (search rules)

pub returns-in-Ok-Some-clause-answer : goal.returns-in-Ok-Some-clause-answer
returns-in-Ok-Some-clause-answer c = search (rules, spelt_front)

pub returns-in-Ok-Some-clause-ahead : goal.returns-in-Ok-Some-clause-ahead
returns-in-Ok-Some-clause-ahead c =
    let here = c.args.self.now in
    onward here.input.now (state_of here) _ (Ok (Some (said c.read-record.result))) (search (rules, spelt_front))

pub returns-in-Ok-Some-clause-leaves : goal.returns-in-Ok-Some-clause-leaves
returns-in-Ok-Some-clause-leaves c =
    let here = c.args.self.now in
    ap records_left (onward here.input.now (state_of here) _ (Ok (Some (said c.read-record.result))) (search (rules, spelt_front)))

pub returns-in-Ok-Some-clause-tells : goal.returns-in-Ok-Some-clause-tells
returns-in-Ok-Some-clause-tells c =
    let here = c.args.self.now in
    tells_at here.input.now (state_of here) (Ok (Some (said c.read-record.result))) _ (search (rules, spelt_front)) (search rules)
