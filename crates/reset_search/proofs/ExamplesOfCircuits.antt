-- Resets through instances. Names: clock 50, reset 51, q 52, r 53, a 54, x 55, io 56, c 25, the modules C 40 and M 41.
use Rattle.std.proofs.Common.{◌≡◌, ℕ, nat_eq, Bool, true, false, List, [], ◌∷◌, ◌++◌, map, Option, Some, None, refl, arith}
use Rattle.std.proofs.lemmas.Grind.{common_steps}
use Rattle.bit_words.specs.declared.value.Kind.TheVariants.{Unsigned}
use Rattle.fir_types.specs.declared.fir_type.FirType.{FirType, the_lemmas as type_lemmas}
use Rattle.fir_types.specs.declared.fir_type.Shape.TheVariants as shape
use Rattle.prim_ops.specs.declared.operation.PrimOp.TheVariants.{AsUInt, AsAsyncReset, Not}
use Rattle.fir_tree.specs.declared.circuit.Module.{Module}
use Rattle.fir_tree.specs.declared.expr.Expr.{the_lemmas as expr_lemmas}
use Rattle.fir_tree.specs.declared.stmt.Stmt.{Stmt, the_lemmas as stmt_lemmas}
use Rattle.fir_tree.specs.declared.stmt.Stmt.TheVariants as stmt
use Rattle.reset_search.specs.declared.spot.Spot.TheVariants.{Declared}
use Rattle.reset_search.specs.declared.spot.Feeds.{Feeds}
use Rattle.reset_search.specs.Feeds.{feed, instance_in, bodies_from, modules_from, all_ports}
use Rattle.reset_search.specs.Resolved.{resolved_ports}
use Rattle.reset_search.proofs.Samples.{place, name, typ, uint, sint, reset, async, vector, bundle, plain, flipped, input, output, ref, part, dot, at, literal}

-- module C, whose port reset is a Reset, and M, which connects its input a to it
abbrev child : Module
child = record {
  name = name 40;
  ports = input 50 (typ shape.Clock) ∷ input 51 reset ∷ output 52 (uint 4) ∷ [];
  body = stmt.RegReset (name 53) (uint 4) (ref 50) (ref 51) (literal 4 5) ∷ stmt.Connect (ref 52) (ref 53) ∷ [];
}

abbrev top : FirType → Module
top t = record {
  name = name 41;
  ports = input 50 (typ shape.Clock) ∷ input 54 t ∷ output 55 (uint 4) ∷ [];
  body = stmt.Inst (name 25) (name 40) ∷ stmt.Connect (part 25 (dot 50 ∷ [])) (ref 50) ∷ stmt.Connect (part 25 (dot 51 ∷ [])) (ref 54)
      ∷ stmt.Connect (ref 55) (part 25 (dot 52 ∷ [])) ∷ [];
}

abbrev feeds_of : List Module → Feeds
feeds_of modules = bodies_from (instance_in (modules_from 0 modules)) (all_ports modules) 0 (modules_from 0 modules)

-- The ports reset, q, a and x have the places 0 to 3, and r has 4; clocks have none. The input a feeds the port reset.
an_async_feeds : feeds_of (child ∷ top async ∷ [])
    ≡ record { feeds = feed (Declared 4) (Declared 1) ∷ feed (Declared 2) (Declared 0) ∷ feed (Declared 1) (Declared 3) ∷ []; asyncs = Declared 2 ∷ [] }
an_async_feeds = grind (arith, common_steps, stmt_lemmas, expr_lemmas, type_lemmas)

-- With a UInt<1> there is no AsyncReset leaf.
a_uint_feeds : feeds_of (child ∷ top (uint 1) ∷ [])
    ≡ record { feeds = feed (Declared 4) (Declared 1) ∷ feed (Declared 2) (Declared 0) ∷ feed (Declared 1) (Declared 3) ∷ []; asyncs = [] }
a_uint_feeds = grind (arith, common_steps, stmt_lemmas, expr_lemmas, type_lemmas)

-- So the port becomes AsyncReset.
port_becomes_async : resolved_ports (nat_eq 0) 0 child.ports ≡ input 50 (typ shape.Clock) ∷ input 51 async ∷ output 52 (uint 4) ∷ []
port_becomes_async = grind (arith, common_steps, type_lemmas)

-- A port io : { flip r : Reset, q : Reset } whose two leaves are connected inside: what goes in at r comes out at q, through the instance.
abbrev through : Module
through = record {
  name = name 40;
  ports = output 56 (bundle (flipped 30 reset ∷ plain 31 reset ∷ [])) ∷ [];
  body = stmt.Connect (part 56 (dot 31 ∷ [])) (part 56 (dot 30 ∷ [])) ∷ [];
}

abbrev around : Module
around = record {
  name = name 41;
  ports = input 54 async ∷ output 55 reset ∷ [];
  body = stmt.Inst (name 25) (name 40) ∷ stmt.Connect (part 25 (dot 56 ∷ dot 30 ∷ [])) (ref 54) ∷ stmt.Connect (ref 55) (part 25 (dot 56 ∷ dot 31 ∷ [])) ∷ [];
}

flipped_ports_feed : (feeds_of (through ∷ around ∷ [])).feeds
    ≡ feed (Declared 0) (Declared 1) ∷ feed (Declared 2) (Declared 0) ∷ feed (Declared 1) (Declared 3) ∷ []
flipped_ports_feed = grind (arith, common_steps, stmt_lemmas, expr_lemmas, type_lemmas)
