use Rattle.std.proofs.Common.{◌≡◌, ℕ, ◌+◌, true, false, List, ◌++◌, length, take, drop, Some, None, refl, sym, ap, ◌∙◌}
use Rattle.std.specs.Prelude.{IfSome, IfNone, MatchOption, nat_eq}
use Rattle.std.proofs.lemmas.Bool.{false≢true}
use Rattle.std.proofs.lemmas.List.{take-append-drop, take_at}
use lib.Pointwise.{pointwise, bytes_decides}
use Rattle.snapshot_text.proofs.lines.behind.Goals as goal

begins : (text front : List ℕ) → pointwise nat_eq (take (length front) text) front ≡ true → text ≡ front ++ drop (length front) text
begins text front e = sym (take-append-drop (length front) text) ∙ ap (λ l. l ++ drop (length front) text) ((bytes_decides (take (length front) text) front).0 e)

begins_not : (text front rest : List ℕ) → pointwise nat_eq (take (length front) text) front ≡ false → ¬ (text ≡ front ++ rest)
begins_not text front rest e f =
    let same : take (length front) text ≡ front = ap (take (length front)) f ∙ take_at front rest (length front) refl in
    false≢true (sym e ∙ (bytes_decides (take (length front) text) front).1 same)

pub returns-clause-some : goal.returns-clause-some
returns-clause-some c = elim c.strip_prefix.result as (λ o. MatchOption o (pointwise nat_eq (take (length c.args.front.now) c.args.text.now) c.args.front.now ≡ false) (λ x. (pointwise nat_eq (take (length c.args.front.now) c.args.text.now) c.args.front.now ≡ true) × (x.now ≡ drop (length c.args.front.now) c.args.text.now) × (length x.now + length c.args.front.now ≡ length c.args.text.now)) → IfSome o (λ rest. c.args.text.now ≡ c.args.front.now ++ rest.now))
    [ Some x ↦ λ h. begins c.args.text.now c.args.front.now h.0 ∙ ap (λ l. c.args.front.now ++ l) (sym h.1) | None ↦ λ h. tt ] c.strip_prefix.ensures.cases

pub returns-clause-none : goal.returns-clause-none
returns-clause-none c = elim c.strip_prefix.result as (λ o. MatchOption o (pointwise nat_eq (take (length c.args.front.now) c.args.text.now) c.args.front.now ≡ false) (λ x. (pointwise nat_eq (take (length c.args.front.now) c.args.text.now) c.args.front.now ≡ true) × (x.now ≡ drop (length c.args.front.now) c.args.text.now) × (length x.now + length c.args.front.now ≡ length c.args.text.now)) → IfNone o ((rest : List ℕ) → ¬ (c.args.text.now ≡ c.args.front.now ++ rest)))
    [ Some x ↦ λ h. tt | None ↦ λ h rest. begins_not c.args.text.now c.args.front.now rest h ] c.strip_prefix.ensures.cases
