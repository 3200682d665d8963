-- What an element holds after a write (FIRRTL specification 3.0, "Memories").
use Rattle.std.specs.Prelude.{List, ℤ, if◌then◌else◌}
use Rattle.bit_words.specs.declared.value.Value.{Value}
use Rattle.bit_words.specs.Values.{integer_of}
use Rattle.fir_types.specs.declared.leaf.TypeLeaf.{TypeLeaf}
use Rattle.fir_types.specs.declared.leaf.PathStep.{PathStep}
use Rattle.prim_ops.specs.Ports.{Shown}

-- A leaf with the value beside it: what the port writes there, where its mask is 1, and else what it held.
abbrev pub over : Shown (List PathStep) → TypeLeaf × Value → ℤ
over port both = if port.masked both.0.path then port.written both.0.path else integer_of both.1
