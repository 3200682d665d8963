use Rattle.std.proofs.Common.{◌≡◌, true, false, length, get_or, inl, inr, refl, sym, ap, ◌∙◌, arith}
use Rattle.std.proofs.Math.ListN.{set}
use Rattle.std.proofs.lemmas.List.{length-set}
use Rattle.std.specs.Vec.{with_items}
use Rattle.part_compile.specs.declared.live_count.LiveCount.{LiveCount}
use Rattle.part_compile.specs.Counts.{is_read, stands}
use Rattle.part_compile.proofs.Marks.{read_one, refilled}
use Rattle.part_compile.proofs.live_count.read_leaf.Goals as goal

pub returns-then-is_set-2 : goal.returns-then-is_set-2
returns-then-is_set-2 c =
    let old = c.args.live.now in
    let x = c.args.leaf in
    let marked : c.set.new.flags ≡ set c.args.live.now.read.items c.args.leaf true = c.set.ensures ∙ ap (λ fs. set fs x true) c.as_mut_slice.ensures.value in
    let unread : is_read c.args.live.now c.args.leaf ≡ false = ap (λ fs. get_or fs x false) (sym c.as_slice.ensures.value) ∙ (sym c.is_set.ensures ∙ c.if-is_set.false) in
    let there : stands c.args.live.now c.args.leaf ≡ true = ap (λ fs. get_or fs x false) (sym c.as_slice-2.ensures.value) ∙ (sym c.is_set-2.ensures ∙ c.if-is_set-2.true) in
    let more = c.saturating_add-live.ensures in
    let long : length c.set.new.flags ≡ length c.args.live.now.read.items = ap length marked ∙ length-set c.args.live.now.read.items x true in
    let new : LiveCount = record { read = with_items c.args.live.now.read c.set.new.flags; done = c.args.live.now.done; count = c.saturating_add-live.result; met = c.args.live.now.met } in
    read_one old new x (refilled c.args.live.now.read c.set.new.flags long ∙ marked) refl unread (inr (there, omega (arith, more)))

pub returns-else-is_set-2 : goal.returns-else-is_set-2
returns-else-is_set-2 c =
    let old = c.args.live.now in
    let x = c.args.leaf in
    let marked : c.set.new.flags ≡ set c.args.live.now.read.items c.args.leaf true = c.set.ensures ∙ ap (λ fs. set fs x true) c.as_mut_slice.ensures.value in
    let unread : is_read c.args.live.now c.args.leaf ≡ false = ap (λ fs. get_or fs x false) (sym c.as_slice.ensures.value) ∙ (sym c.is_set.ensures ∙ c.if-is_set.false) in
    let long : length c.set.new.flags ≡ length c.args.live.now.read.items = ap length marked ∙ length-set c.args.live.now.read.items x true in
    let new : LiveCount = record { read = with_items c.args.live.now.read c.set.new.flags; done = c.args.live.now.done; count = c.args.live.now.count; met = c.args.live.now.met } in
    read_one old new x (refilled c.args.live.now.read c.set.new.flags long ∙ marked) refl unread (inl (omega arith))
