use Rattle.std.proofs.Common.{rules, ◌≡◌, ℕ, ◌+◌, ◌<◌, ◌≤◌, [], ◌∷◌, ◌++◌, List, length, take, get_or, slice_set, Some, refl, sym, subst, ap, ◌∙◌, arith}
use Rattle.std.specs.Prelude.{slice_get}
use Rattle.std.proofs.lemmas.List.{length-take-le, length-set}
use Rattle.std.proofs.Math.Seq.{take-length}
use Rattle.std.proofs.lemmas.Option.{slice_get_read}
use Rattle.fir_tree.specs.declared.print.PrintItem.{PrintItem}
use Rattle.found_items.specs.Tables.{own_numbers}
use Rattle.found_items.proofs.Owning.{OwnUpTo, own_put, own_past, own_all}
use Rattle.found_items.proofs.owned.owned.Goals as goal
use Rattle.found_items.proofs.owned.owned.Goals.{then-holder-count+in_ok-put, else-holder-count}

pub loop-at-preserved : goal.loop-at-preserved
loop-at-preserved c =
    let prints = c.args.prints.now in
    let at = c.loop-at.at in
    let p = c.index-prints-at.result in
    let own = c.loop-at.own.items in
    let inv = c.loop-at.invariant in
    let less : at < length prints = c.loop-at-test.true in
    let there : slice_get prints at ≡ Some p = slice_get_read prints (length prints) at p refl less c.index-prints-at.is in
    let long : length (take at prints) ≡ at = length-take-le at prints (omega (arith, less)) in
    elim c.if-holder-count.branch [
      | then-holder-count+in_ok-put w ↦
          let same : c.if-holder-count.own.items ≡ slice_set own p.«module» (get_or own p.«module» [] ++ at ∷ []) =
          ap (λ v. v.items) w.own-is ∙ w.in_ok-put.ensures ∙ ap (λ (q : PrintItem). slice_set own q.«module» (get_or own q.«module» [] ++ at ∷ [])) (sym c.index-prints-at.is) in (
            ap (λ (l : List (List ℕ)). length l) same ∙ length-set own p.«module» (get_or own p.«module» [] ++ at ∷ []) ∙ inv.0,
            subst (λ r. (k : ℕ) → k < c.args.count → get_or r k [] ≡ own_numbers k 0 (take (at + 1) prints)) (sym same) (own_put c.args.count prints at p own there long inv (subst (λ (q : PrintItem). q.«module» < c.args.count) (sym c.index-prints-at.is) w.if-holder-count.true)),
          )
      | else-holder-count w ↦
          let same : c.if-holder-count.own.items ≡ own = ap (λ v. v.items) w.own-is in (
            ap (λ (l : List (List ℕ)). length l) same ∙ inv.0,
            subst (λ r. (k : ℕ) → k < c.args.count → get_or r k [] ≡ own_numbers k 0 (take (at + 1) prints)) (sym same) (own_past c.args.count prints at p own there inv (subst (λ (q : PrintItem). c.args.count ≤ q.«module») (sym c.index-prints-at.is) w.if-holder-count.false)),
          )
    ]

pub loop-at-init : goal.loop-at-init
loop-at-init c = (c.in_ok-own.ensures.counted, λ k less. c.in_ok-own.ensures.none k)

pub returns : goal.returns
returns c =
    let prints = c.args.prints.now in
    let end : c.loop-at.at ≡ length prints = search rules in
    own_all c.args.count prints c.loop-at.own.items (take-length prints) (subst (λ n. OwnUpTo c.args.count prints n c.loop-at.own.items) end c.loop-at.invariant)
