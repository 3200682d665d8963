use Rattle.std.proofs.Common.{◌≡◌, [], None, refl, sym, ⊎_elim}
use Rattle.item_lines.proofs.Reading.{behind_nothing, goes_on, stops, ends_badly, ends_well}
use Rattle.item_lines.specs.declared.format.After.TheVariants as asks
use Rattle.item_lines.specs.FormatReading.{pieces_from}
use Rattle.item_lines.proofs.format.read_format.Goals as goal

pub loop-byte-init : goal.loop-byte-init
loop-byte-init c = rw (c.new.ensures.items, c.new-2.ensures.items) (sym (behind_nothing (pieces_from asks.Byte c.args.bytes.now)))

pub returns-in-None-clause-none : goal.returns-in-None-clause-none
returns-in-None-clause-none c = stops _ _ _ c.loop-byte.held.pieces.items c.loop-byte.held.text.items c.loop-byte.invariant c.loop-byte-test.true (rw c.in-None.is at c.in_ok-next.ensures)

pub loop-byte-preserved : goal.loop-byte-preserved
loop-byte-preserved c =
    goes_on _ _ _ c.loop-byte.held.pieces.items c.loop-byte.held.text.items c.loop-byte.invariant _ c.take.new.self.pieces.items c.take.new.self.text.items c.loop-byte-test.true (rw c.in-Some.is at c.in_ok-next.ensures)

pub returns-in_ok-finish-in-Byte-clause-pieces : goal.returns-in_ok-finish-in-Byte-clause-pieces
returns-in_ok-finish-in-Byte-clause-pieces c =
    ends_well _ _ _ c.loop-byte.held.pieces.items c.loop-byte.held.text.items c.loop-byte.invariant c.loop-byte-test.false c.in-Byte.is _ c.in_ok-finish-in-Byte.ensures

pub returns-in-Percent : goal.returns-in-Percent
returns-in-Percent c =
    let none : pieces_from c.loop-byte.after [] ≡ None = ⊎_elim (λ (e : c.loop-byte.after ≡ asks.Percent). rw e refl) (λ (e : c.loop-byte.after ≡ asks.Backslash). rw e refl) c.in-Percent.is in
    record { pieces = tt; none = ends_badly _ _ _ c.loop-byte.held.pieces.items c.loop-byte.held.text.items c.loop-byte.invariant c.loop-byte-test.false none }
