use Rattle.snapshot_text.proofs.Naming.{element_yes, element_no, never}
use Rattle.snapshot_text.proofs.lines.is_element.Goals as goal

pub returns-in-Some-behind-2 : goal.returns-in-Some-behind-2
returns-in-Some-behind-2 c =
    rw (← c.format.ensures.text, ← c.as_bytes.ensures.value)
    (element_yes c.args.name.now c.in-Some.number.now c.as_bytes.result.now c.in-Some-behind.bracket.now c.in-Some-behind-2.path.now c.args.element.path.now c.eq.result
    c.in-Some.ensures.some c.in-Some-behind.ensures.some c.in-Some-behind-2.ensures.some c.eq.ensures)

pub returns-in-None : goal.returns-in-None
returns-in-None c =
    rw (← c.format.ensures.text, ← c.as_bytes.ensures.value)
    (never (element_no c.args.name.now c.in-Some.number.now c.as_bytes.result.now c.in-Some-behind.bracket.now c.args.element.path.now c.in-Some.ensures.some c.in-Some-behind.ensures.some c.in-None.ensures.none))
