use Rattle.std.proofs.Common.{sym, ◌∙◌}
use Rattle.shelf_io.proofs.HeldTexts.{found}
use Rattle.shelf_io.proofs.memory.find.Goals as goal

pub returns-then-eq : goal.returns-then-eq
returns-then-eq c =
    found _ c.index-texts-i.result _ _ c.loop-i-test.true c.index-texts-i.is (rw c.as_str.ensures.value at (sym c.eq.ensures ∙ c.if-eq.true)) c.loop-i.invariant
