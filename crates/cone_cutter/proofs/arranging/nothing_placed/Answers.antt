use Rattle.std.proofs.Common.{◌≡◌, rules, false, length, subst, ap, ◌∙◌, arith}
use Rattle.std.specs.Prelude.{replicate}
use Rattle.std.specs.List.{Contains}
use Rattle.cone_cutter.proofs.Lists.{none_in}
use Rattle.cone_cutter.proofs.VertexOrder.{arranged_none}
use Rattle.cone_cutter.proofs.arranging.nothing_placed.Goals as goal

pub returns : goal.returns
returns c =
    let count : c.len.result ≡ length c.args.rows.now.reads.items = omega (arith, c.len.ensures, c.args.rows.now.reads.ok.0) in
    let flags : c.in_ok-vec.field-0.items ≡ replicate (length c.args.rows.now.reads.items) false = c.in_ok-vec.ensures.items_if_clones_equal (λ y k. search rules) ∙ ap (λ n. replicate n false) count in
    record {
      arranged = arranged_none c.args.rows.now (record { placed = c.in_ok-vec.field-0; all = c.new.result }) flags c.new.ensures.items;
      empty = λ x d. none_in x (subst (λ s. Contains s x) c.new.ensures.items d);
    }
