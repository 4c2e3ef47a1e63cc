use Rattle.std.specs.Prelude.{if◌then◌else◌}
use Rattle.std.proofs.Common.{Bool, List, ℕ, [], ap, sym, ◌∙◌, subst}
use Rattle.line_io.specs.Writes.{Writes}
use Rattle.demo_engines.specs.Objects.{rule_members}
use Rattle.demo_engines.specs.Summary.{game}
use Rattle.demo_engines.proofs.object.write_rules.Goals as goal

pub returns : goal.returns
returns g c =
    let has = sym c.has_rules.ensures ∙ c.if-not-has_rules.false in
    let text = ap (λ (b : Bool). if b then rule_members (game c.args.demo.now) else []) has in
    subst (λ (t : List ℕ). Writes {T = Unit {0}} (g.W.Sink.state c.args.out.now) (g.W.Sink.state c.write_rule_members.new.out) t c.write_rule_members.result)
    (sym text) (rw c.game.ensures.game at c.write_rule_members.ensures)
