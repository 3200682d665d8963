-- Lists without empty blocks.
use Rattle.std.proofs.Common.{◌≡◌, ℕ, ◌+◌, List, [], ◌∷◌, Some, slice_get, refl, sym, subst, arith}
use Rattle.std.specs.Prelude.{suc, zero}
use Rattle.fir_layout.specs.declared.laid.Laid.{Laid}
use Rattle.fir_layout.specs.declared.laid.Laid.TheVariants.{Item, LineEnd, Open, Close, End}
use Rattle.fir_grammar.proofs.Cases.{some_injective}
use Rattle.depth_laws.specs.EmptyBlocks.{IsEmptyBlockAt}
use Rattle.depth_laws.proofs.Shallow.{none_some}
use Rattle.depth_laws.proofs.Solid.{Follows, Solid}

follows : (l : Laid) (ls : List Laid) → ¬ (IsEmptyBlockAt (l ∷ ls) 0) → Follows l ls
follows (Item token) ls h = tt
follows (LineEnd at) ls h = tt
follows (Close at) ls h = tt
follows (End at) ls h = tt
follows (Open at) [] h = tt
follows (Open at) (Item token ∷ ls) h = tt
follows (Open at) (LineEnd to ∷ ls) h = tt
follows (Open at) (Open to ∷ ls) h = tt
follows (Open at) (End to ∷ ls) h = tt
follows (Open at) (Close to ∷ ls) h = absurd (h (record { begin = at; end = to; opens = refl; closes = refl }))

next : (k : ℕ) → suc (k + 1) ≡ suc k + 1
next k = omega arith

later : (l : Laid) (ls : List Laid) (k : ℕ) → IsEmptyBlockAt ls k → IsEmptyBlockAt (l ∷ ls) (suc k)
later l ls k e = record {
  begin = e.begin;
  end = e.end;
  opens = e.opens;
  closes = subst (λ n. slice_get (l ∷ ls) n ≡ Some (Close e.end)) (next k) e.closes;
}

sooner : (l : Laid) (ls : List Laid) (k : ℕ) → IsEmptyBlockAt (l ∷ ls) (suc k) → IsEmptyBlockAt ls k
sooner l ls k e = record {
  begin = e.begin;
  end = e.end;
  opens = e.opens;
  closes = subst (λ n. slice_get (l ∷ ls) n ≡ Some (Close e.end)) (sym (next k)) e.closes;
}

pub filled_solid : (list : List Laid) → ((k : ℕ) → ¬ (IsEmptyBlockAt list k)) → Solid list
filled_solid [] h = tt
filled_solid (l ∷ ls) h = (follows l ls (h 0), filled_solid ls (λ k e. h (suc k) (later l ls k e)))

here : (l m : Laid) (ls : List Laid) (at to : ℕ) → l ≡ Open at → m ≡ Close to → Follows l (m ∷ ls) → ⊥
here l m ls at to e h f =
    let opened : Follows (Open at) (m ∷ ls) = subst (λ x. Follows x (m ∷ ls)) e f in
    subst (λ x. Follows (Open at) (x ∷ ls)) h opened

pub solid_filled : (list : List Laid) → Solid list → (k : ℕ) → ¬ (IsEmptyBlockAt list k)
solid_filled [] s zero e = none_some e.opens
solid_filled [] s (suc k) e = none_some e.opens
solid_filled (l ∷ []) s zero e = none_some e.closes
solid_filled (l ∷ m ∷ ls) s zero e = here l m ls e.begin e.end (some_injective e.opens) (some_injective e.closes) (s.0)
solid_filled (l ∷ ls) s (suc k) e = solid_filled ls (s.1) k (sooner l ls k e)
