use Rattle.std.proofs.Common.{◌≡◌, [], ◌++◌, length, map, suc, ap, ◌∙◌, arith}
use Rattle.std.specs.List.{flat_map, range_with_len}
use Rattle.std.proofs.lemmas.List.{get_or_read}
use Rattle.ground_net.specs.Cones.{A_watched, A_memory, A_register, sinks_at}
use Rattle.cone_cutter.specs.Rows.{places_of}
use Rattle.cone_cutter.proofs.SinkOrder.{sinks_more}
use Rattle.cone_cutter.proofs.sinks.sinks_of.Goals as goal

pub loop-leaf-preserved : goal.loop-leaf-preserved
loop-leaf-preserved c =
    let net = c.args.net.now in
    let x = c.loop-leaf.leaf in
    let lt = c.loop-leaf-test.true in
    let memory_row = get_or_read c.in_ok-memories.memories.items _ _ (omega (arith, lt, c.in_ok-memories.ensures.count)) c.index.ensures [] in
    let register_row = get_or_read c.in_ok-registers.registers.items _ _ (omega (arith, lt, c.in_ok-registers.ensures.count)) c.index-in-loop-leaf.ensures [] in
    let memories : c.as_slice-in-loop-leaf.result.now ≡ places_of (map (λ memory. memory.before) c.args.net.now.memories) c.loop-leaf.leaf =
    c.as_slice-in-loop-leaf.ensures ∙ (memory_row ∙ (c.in_ok-memories.ensures.rows x lt ∙ ap (λ keys. places_of keys x) (c.as_slice.ensures.value ∙ c.in_ok-befores_of.ensures))) in
    let registers : c.as_slice-in-loop-leaf-2.result.now ≡ places_of (map (λ register. register.leaf) c.args.net.now.registers) c.loop-leaf.leaf =
    c.as_slice-in-loop-leaf-2.ensures ∙ (register_row ∙ (c.in_ok-registers.ensures.rows x lt ∙ ap (λ keys. places_of keys x) (c.as_slice-2.ensures.value ∙ c.in_ok-leaves_of.ensures))) in
    c.in_ok-push_registers.ensures ∙ (ap (λ l. l ++ map (λ k. A_register k) c.as_slice-in-loop-leaf-2.result.now) c.in_ok-push_memories.ensures
    ∙ sinks_more net x (map (λ y. A_watched y) c.args.watch.now) _ _ _ c.loop-leaf.invariant (ap (map (λ m. A_memory m)) memories) (ap (map (λ k. A_register k)) registers))

pub returns : goal.returns
returns c =
    let all : c.loop-leaf.leaf ≡ suc (length c.args.net.now.leaves) = omega (arith, c.loop-leaf.auto.leaf-end, c.loop-leaf-test.false, c.len-count.ensures) in
    c.loop-leaf.invariant ∙ ap (λ n. map (λ y. A_watched y) c.args.watch.now ++ flat_map (sinks_at c.args.net.now) (range_with_len 0 n)) all
