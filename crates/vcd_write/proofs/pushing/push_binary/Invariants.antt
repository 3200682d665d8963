use Rattle.std.proofs.Common.{◌≡◌, ◌++◌, ◌-◌, ◌/◌, ◌^◌}
use Rattle.vcd_write.specs.Texts.{binary}
use Rattle.vcd_write.proofs.pushing.push_binary.Given as goal

abbrev pub invariant-loop-turn : goal.invariant-loop-turn
invariant-loop-turn l = l.text.items ≡ l.initial.text.items ++ binary l.turn (l.bits / 2 ^ (l.width - l.turn))
