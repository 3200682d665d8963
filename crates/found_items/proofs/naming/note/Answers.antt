use Rattle.std.proofs.Common.{rules, ◌≡◌, ℕ, Bool, true, false, List, Option, Some, None, Bor, bytes_eq, if◌then◌else◌, refl, sym, ap, ◌∙◌}
use Rattle.std.proofs.lemmas.Map.Text.{btree_map_updates_str}
use Rattle.std.proofs.lemmas.Slice.Eq.{bytes_eq-Decides}
use Rattle.std.specs.BTreeMap.{get_by}
use Rattle.std.specs.Cmp.Lexicographic.{slice_cmp}
use Rattle.std.specs.Ordering.{nat_cmp}
use Rattle.found_items.proofs.Texts.{or_new}
use Rattle.found_items.proofs.naming.note.Goals as goal

itself : (o : Option ℕ) (n : ℕ) → o ≡ or_new o false n
itself None n = refl
itself (Some x) n = refl

noted : (old : List ℕ → Option ℕ) (text other : List ℕ) (id : ℕ) → old text ≡ None → (if bytes_eq text other then Some id else old other) ≡ or_new (old other) (bytes_eq text other) id
noted old text other id none = by (bytes_eq text other) refl
  where
    by : (b : Bool) → bytes_eq text other ≡ b → (if b then Some id else old other) ≡ or_new (old other) b id
    by true e = sym (ap (λ o. or_new o true id) (ap old (sym ((bytes_eq-Decides text other).0 e)) ∙ none))
    by false e = itself (old other) id

pub returns-in_ok-insert : goal.returns-in_ok-insert
returns-in_ok-insert c = λ other.
    let old : List ℕ → Option ℕ = λ name. get_by {K = Bor (List ℕ)} (λ k. slice_cmp nat_cmp name k.now) c.args.numbers.now in
    btree_map_updates_str c.args.text.now c.args.numbers.now c.insert.new.self (Some c.args.id) c.in_ok-insert.ensures.updates other ∙ noted old c.args.text.now other c.args.id (search rules)
