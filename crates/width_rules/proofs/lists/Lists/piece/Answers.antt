use Rattle.std.proofs.Common.{◌++◌, ◌∙◌, drop, take, ap, refl, rules, sym}
use Rattle.width_rules.specs.Lists.{joined}
use Rattle.width_rules.proofs.Ends.{piece_of}
use Rattle.width_rules.proofs.lists.Lists.piece.Goals as goal

pub returns-clause-some : goal.returns-clause-some
returns-clause-some c =
    piece_of c.args.self.now c.in_ok-own.own.now c.args.start c.args.end c.in_ok-own.behind _ _ (search rules) refl refl
    ∙ ap (λ l. l ++ drop c.in_ok-own.behind (take c.args.end (joined c.args.self.now))) (sym c.between.ensures)
