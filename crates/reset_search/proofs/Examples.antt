-- What feeds what, and what a `Reset` becomes. Names: the inputs a and u are 20 and 21, the wires v and w are 22 and 23, the node n is 24, an
-- instance c is 25, a writer is 28; fields r and q are 30 and 31; the modules C and M are 40 and 41.
use Rattle.std.proofs.Common.{◌≡◌, ℕ, nat_eq, Bool, true, false, List, [], ◌∷◌, ◌++◌, map, Option, Some, None, refl, arith, subst, sym}
use Rattle.std.specs.Prelude.{Contains}
use Rattle.std.proofs.lemmas.Grind.{common_steps}
use Rattle.fir_types.specs.declared.fir_type.FirType.{FirType, the_lemmas as type_lemmas}
use Rattle.fir_types.specs.declared.fir_type.Shape.TheVariants as shape
use Rattle.fir_types.specs.declared.port.Port.{Port}
use Rattle.fir_types.specs.declared.memory.Memory.{Memory}
use Rattle.fir_types.specs.declared.memory.MemLine.TheVariants as line
use Rattle.fir_types.specs.declared.memory.PortMode.TheVariants as mode
use Rattle.prim_ops.specs.declared.operation.PrimOp.TheVariants.{AsAsyncReset, Eq}
use Rattle.fir_tree.specs.declared.circuit.Circuit.{Circuit}
use Rattle.fir_tree.specs.declared.circuit.Module.{Module}
use Rattle.fir_tree.specs.declared.expr.Expr.{Expr, the_lemmas as expr_lemmas}
use Rattle.fir_tree.specs.declared.stmt.Stmt.{Stmt, the_lemmas as stmt_lemmas}
use Rattle.fir_tree.specs.declared.stmt.Stmt.TheVariants as stmt
use Rattle.reset_search.specs.declared.ground.Word.TheVariants.{OfUint, OfSint, OfReset, OfAsync}
use Rattle.reset_search.specs.declared.spot.Spot.TheVariants.{Cast, Declared, OfNode}
use Rattle.reset_search.specs.Grounds.{grounds, are_alike}
use Rattle.reset_search.specs.Feeds.{feed, reach, Known, Gathered, WithPorts, stmt_walk, instance_in, in_turn, element_size, mask_size, memory_count, lines_spots, IsReached, begins, onward}
use Rattle.reset_search.specs.Resolved.{resolved, becomes_stmt}
use Rattle.reset_search.proofs.Samples.{place, name, typ, uint, sint, reset, async, vector, bundle, plain, flipped, input, output, ref, part, dot, at, index, literal, op, mux}

-- Types

-- { r : Reset, flip q : AsyncReset[2], u : UInt<3>, s : SInt<2>[0], c : Clock }
abbrev mixed : FirType
mixed = bundle (plain 30 reset ∷ flipped 31 (vector async 2) ∷ plain 21 (uint 3) ∷ plain 32 (vector (sint 2) 0) ∷ plain 33 (typ shape.Clock) ∷ [])

-- a vector has the places of its element once, one of length 0 no leaf for them, and a Clock has no place
four_places : grounds mixed ≡ record { word = OfReset; flip = false; leaf = true } ∷ record { word = OfAsync; flip = true; leaf = true }
    ∷ record { word = OfUint; flip = false; leaf = true } ∷ record { word = OfSint; flip = false; leaf = false } ∷ []
four_places = grind (arith, common_steps, type_lemmas)

-- a Reset whose place is reached is AsyncReset, and all else stays
becomes_async : resolved (nat_eq 7) 7 mixed
    ≡ bundle (plain 30 async ∷ flipped 31 (vector async 2) ∷ plain 21 (uint 3) ∷ plain 32 (vector (sint 2) 0) ∷ plain 33 (typ shape.Clock) ∷ [])
becomes_async = grind (arith, common_steps, type_lemmas)

stays_reset : resolved (nat_eq 8) 7 mixed ≡ mixed
stays_reset = grind (arith, common_steps, type_lemmas)

-- all elements of a vector share one place, and so one resolution
elements_share : resolved (nat_eq 7) 7 (vector (vector reset 2) 3) ≡ vector (vector async 2) 3
elements_share = grind (arith, common_steps, type_lemmas)

-- Reset, AsyncReset and UInt are one type here, and SInt is another one
alike : are_alike (bundle (plain 30 reset ∷ plain 31 async ∷ [])) (bundle (plain 30 async ∷ plain 31 (uint 5) ∷ [])) ≡ true
alike = grind (arith, common_steps, type_lemmas)

not_alike : are_alike (bundle (plain 30 reset ∷ plain 31 async ∷ [])) (bundle (plain 30 async ∷ plain 31 (sint 5) ∷ [])) ≡ false
not_alike = grind (arith, common_steps, type_lemmas)

-- Bodies: a is an AsyncReset with the place 0, and u a UInt<1> with the place 1; the body's places begin at 2.

abbrev known : Known
known = (20, reach async (Declared 0 ∷ [])) ∷ (21, reach (uint 1) (Declared 1 ∷ [])) ∷ []

abbrev gathered : List Stmt → Gathered
gathered body = in_turn (map (stmt_walk (instance_in [])) body) known 2 0

--   wire v : Reset[2]
--   connect v[0], a
--   connect v[1], u
-- Both elements are one place, and it is fed by both: it becomes AsyncReset, so the second connect isn't legal.
vectors_feed : (gathered (stmt.Wire (name 22) (vector reset 2) ∷ stmt.Connect (part 22 (at 0 ∷ [])) (ref 20) ∷ stmt.Connect (part 22 (at 1 ∷ [])) (ref 21) ∷ [])).feeds
    ≡ feed (Declared 0) (Declared 2) ∷ feed (Declared 1) (Declared 2) ∷ []
vectors_feed = grind (arith, common_steps, stmt_lemmas, expr_lemmas, type_lemmas)

--   wire v : Reset[0]
--   connect v[5], a
-- An element feeds and is fed, also where it is none by its number ...
elements_feed : (gathered (stmt.Wire (name 22) (vector reset 0) ∷ stmt.Connect (part 22 (at 5 ∷ [])) (ref 20) ∷ [])).feeds ≡ feed (Declared 0) (Declared 2) ∷ []
elements_feed = grind (arith, common_steps, stmt_lemmas, expr_lemmas, type_lemmas)

--   wire v : AsyncReset[0]
--   wire w : Reset[0]
--   connect w, v
-- ... and a vector of length 0 has no leaf, and feeds nothing.
empty_vectors_feed_nothing : (gathered (stmt.Wire (name 22) (vector async 0) ∷ stmt.Wire (name 23) (vector reset 0) ∷ stmt.Connect (ref 23) (ref 22) ∷ [])).feeds ≡ []
empty_vectors_feed_nothing = grind (arith, common_steps, stmt_lemmas, expr_lemmas, type_lemmas)

--   wire v : { r : Reset, flip q : Reset }
--   wire w : { r : AsyncReset, flip q : AsyncReset }
--   connect v, w
-- A flipped leaf is fed from left to right.
flips_feed_back : (gathered (stmt.Wire (name 22) (bundle (plain 30 reset ∷ flipped 31 reset ∷ [])) ∷ stmt.Wire (name 23) (bundle (plain 30 async ∷ flipped 31 async ∷ []))
    ∷ stmt.Connect (ref 22) (ref 23) ∷ [])).feeds
    ≡ feed (Declared 4) (Declared 2) ∷ feed (Declared 3) (Declared 5) ∷ []
flips_feed_back = grind (arith, common_steps, stmt_lemmas, expr_lemmas, type_lemmas)

--   wire v : { r : Reset, q : UInt<1> }
--   wire w : { r : AsyncReset, q : SInt<1> }
--   connect v, w
-- Sides that aren't equivalent feed nothing, not in their leaves that are.
unequal_sides_feed_nothing : (gathered (stmt.Wire (name 22) (bundle (plain 30 reset ∷ plain 31 (uint 1) ∷ [])) ∷ stmt.Wire (name 23) (bundle (plain 30 async ∷ plain 31 (sint 1) ∷ []))
    ∷ stmt.Connect (ref 22) (ref 23) ∷ [])).feeds ≡ []
unequal_sides_feed_nothing = grind (arith, common_steps, stmt_lemmas, expr_lemmas, type_lemmas)

--   wire v : Reset
--   node n = v
--   connect v, a
-- A node has places of its own, which its expression feeds.
nodes_are_fed : (gathered (stmt.Wire (name 22) reset ∷ stmt.Node (name 24) (ref 22) ∷ stmt.Connect (ref 22) (ref 20) ∷ [])).feeds
    ≡ feed (Declared 2) (OfNode 0) ∷ feed (Declared 0) (Declared 2) ∷ []
nodes_are_fed = grind (arith, common_steps, stmt_lemmas, expr_lemmas, type_lemmas)

--   wire v : Reset
--   connect v, asAsyncReset(u)
-- An `asAsyncReset` is the source, whatever it is made from.
casts_feed : (gathered (stmt.Wire (name 22) reset ∷ stmt.Connect (ref 22) (op AsAsyncReset (ref 21 ∷ [])) ∷ [])).feeds ≡ feed Cast (Declared 2) ∷ []
casts_feed = grind (arith, common_steps, stmt_lemmas, expr_lemmas, type_lemmas)

--   wire v : Reset
--   connect v, mux(u, a, a)
-- A choice is no reference, and feeds nothing.
choices_feed_nothing : (gathered (stmt.Wire (name 22) reset ∷ stmt.Connect (ref 22) (mux (ref 21) (ref 20) (ref 20)) ∷ [])).feeds ≡ []
choices_feed_nothing = grind (arith, common_steps, stmt_lemmas, expr_lemmas, type_lemmas)

--   regreset v : Reset, a, u, a
-- Neither a clock nor a reset nor an `init` feeds anything.
inits_feed_nothing : (gathered (stmt.RegReset (name 22) reset (ref 20) (ref 21) (ref 20) ∷ [])).feeds ≡ []
inits_feed_nothing = grind (arith, common_steps, stmt_lemmas, expr_lemmas, type_lemmas)

-- Through the ports of instances: module C has the port r, a Reset with the place 3, and two instances.

abbrev child : WithPorts
child = record { holder = record { name = name 40; ports = input 30 reset ∷ []; body = [] }; ports = (Declared 3 ∷ []) ∷ [] }

--   inst c of C
--   inst d of C
--   connect c.r, a
--   connect d.r, u
-- The port is one place over both instances: it is fed by both.
instances_share : (in_turn (map (stmt_walk (instance_in (child ∷ [])))
    (stmt.Inst (name 25) (name 40) ∷ stmt.Inst (name 26) (name 40) ∷ stmt.Connect (part 25 (dot 30 ∷ [])) (ref 20) ∷ stmt.Connect (part 26 (dot 30 ∷ [])) (ref 21) ∷ [])) known 4 0).feeds
    ≡ feed (Declared 0) (Declared 3) ∷ feed (Declared 1) (Declared 3) ∷ []
instances_share = grind (arith, common_steps, stmt_lemmas, expr_lemmas, type_lemmas)

--   mem v : data-type => { r : Reset, c : Clock }, one writer w
-- The data of all ports are the element's one place. The address and the enable of the writer follow, and its mask, which has a place for
-- each leaf of the element, for its Clock as well.
abbrev element : FirType
element = bundle (plain 30 reset ∷ plain 33 (typ shape.Clock) ∷ [])

abbrev store : Memory
store = record { name = name 22; lines = line.Element place element ∷ line.Depth place 4 ∷ line.MemPort place mode.Writer (name 28) ∷ [] }

one_in_an_element : element_size store ≡ 1
one_in_an_element = grind (arith, common_steps, type_lemmas)

two_in_a_mask : mask_size store ≡ 2
two_in_a_mask = grind (arith, common_steps, type_lemmas)

five_in_all : memory_count store ≡ 5
five_in_all = grind (arith, common_steps, type_lemmas, one_in_an_element, two_in_a_mask)

-- addr, en, data.r, mask.r and mask.c
a_writer_has : lines_spots (Declared 2 ∷ []) 2 3 store.lines ≡ Declared 3 ∷ Declared 4 ∷ Declared 2 ∷ Declared 5 ∷ Declared 6 ∷ []
a_writer_has = refl

-- A chain leads on: from a over v to the node n.
chain : IsReached (record { feeds = feed (Declared 2) (OfNode 0) ∷ feed (Declared 0) (Declared 2) ∷ []; asyncs = Cast ∷ Declared 0 ∷ [] }) (OfNode 0)
chain = onward (onward (begins (1, omega arith, refl)) (1, omega arith, refl)) (0, omega arith, refl)

-- Statements keep all but their types.
wires_become : (becomes_stmt (nat_eq 2) (stmt.Wire (name 22) (vector reset 2))).1 2 ≡ stmt.Wire (name 22) (vector async 2)
wires_become = grind (arith, common_steps, stmt_lemmas, type_lemmas)

connects_stay : (becomes_stmt (nat_eq 2) (stmt.Connect (ref 22) (ref 20))).1 2 ≡ stmt.Connect (ref 22) (ref 20)
connects_stay = grind (arith, common_steps, stmt_lemmas, type_lemmas)
