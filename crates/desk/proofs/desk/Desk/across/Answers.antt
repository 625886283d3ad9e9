use Rattle.std.proofs.Common.{◌≡◌, ℕ, ◌+◌, List, [], ◌∷◌, ◌++◌, drop, MatchOption, sym, ap, ◌∙◌, subst}
use Rattle.flow.specs.Histories.{marked}
use Rattle.naming.specs.Keeping.{names_in}
use Rattle.drawing.specs.Ahead.{ahead}
use Rattle.desk.specs.declared.desk.Phase.{Phase}
use Rattle.desk.specs.Lines.{Lines, line_text, across_lines}
use Rattle.desk.specs.Commands.{asked}
use Rattle.desk.specs.Answering.{command_lines}
use Rattle.desk.specs.Rest.{rest, rest_of}
use Rattle.desk.proofs.Crossing.{first_left, none_left}
use Rattle.desk.proofs.desk.Desk.across.Goals as goal

pub returns : goal.returns
returns g c =
    let d = c.args.self.now in
    let names = names_in d.names in
    let near = marked d.marks in
    let net = g.N.Network.meaning d.network in
    let giver = g.N.Network.giver d.network in
    let a = asked (ahead d.reader) in
    let k = c.in-Some.number in
    let found = c.in-Some.ensures in
    let more = across_lines names near (k + 1) (drop (k + 1) net.reaches) ++ command_lines names a giver net in
    ap (λ (phase : Phase). rest_of names near phase a giver net) c.requires
    ∙ ap (λ (ls : Lines). ls ++ command_lines names a giver net)
    (first_left names near net.reaches c.args.next k found.0 found.1 found.2 found.3)
    ∙ ap (λ (l : List ℕ). l ∷ more) (sym c.across_line.ensures)

pub returns-in_default : goal.returns-in_default
returns-in_default g c =
    let d = c.args.self.now in
    let names = names_in d.names in
    let near = marked d.marks in
    let net = g.N.Network.meaning d.network in
    let giver = g.N.Network.giver d.network in
    let a = asked (ahead d.reader) in
    let then = rest g.N.Network.meaning g.N.Network.giver c.command.new.self in
    let same : rest g.N.Network.meaning g.N.Network.giver d ≡ command_lines names a giver net =
    ap (λ (phase : Phase). rest_of names near phase a giver net) c.requires
    ∙ ap (λ (ls : Lines). ls ++ command_lines names a giver net)
    (none_left names near net.reaches c.args.next c.in_default.ensures) in
    subst (λ (ls : Lines). MatchOption c.command.result ((ls ≡ []) × (then ≡ [])) (λ l. ls ≡ line_text l ∷ then)) (sym same)
    c.command.ensures
