use Rattle.std.proofs.Common.{◌≡◌, ℕ, ◌&&◌, true, List, Some, Bor, sym, ap, ◌∙◌, if◌then◌else◌}
use Rattle.std.proofs.lemmas.Map.Text.{btree_map_updates_str}
use Rattle.std.specs.Str.{bytes_eq}
use Rattle.std.specs.BTreeMap.{get_by}
use Rattle.std.specs.Cmp.Lexicographic.{slice_cmp}
use Rattle.std.specs.Ordering.{nat_cmp}
use Rattle.circuit_texts.specs.NetNames.{is_valued}
use Rattle.circuit_texts.proofs.naming.note.Goals as goal

pub returns-then-not-has_value : goal.returns-then-not-has_value
returns-then-not-has_value c = λ name.
    let old = get_by {K = Bor (List ℕ)} (λ k. slice_cmp nat_cmp name k.now) c.args.firsts.now in
    ap (λ b. if b && bytes_eq c.args.leaf.now.name name then Some c.args.number else old) c.if-not-has_value.ensures

pub returns : goal.returns
returns c = λ name.
    let leaf = c.args.leaf.now in
    let n = c.args.number in
    let old = get_by {K = Bor (List ℕ)} (λ k. slice_cmp nat_cmp name k.now) c.args.firsts.now in
    let valued : true ≡ is_valued leaf.role = sym c.if-not-has_value.false ∙ c.has_value.ensures in
    btree_map_updates_str c.as_slice.result.now c.args.firsts.now c.insert.new.self (Some n) c.in_ok-insert.ensures.updates name ∙ (ap (λ l. if bytes_eq l name then Some n else old) c.as_slice.ensures ∙ ap (λ b. if b && bytes_eq leaf.name name then Some n else old) valued)
