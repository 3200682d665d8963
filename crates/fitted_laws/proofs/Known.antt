-- Components by their names, and what is known of the variables of the rules.
use Rattle.std.proofs.Common.{◌≡◌, ℕ, zero, suc, ◌+◌, Bool, true, false, cond, if◌then◌else◌, List, [], ◌∷◌, ◌++◌, map, length, Option, Some, None, refl, sym, ap, ap₂, ◌∙◌, subst, arith, slice_get, ◌⊎◌, inl, inr, ⊎_elim}
use Rattle.std.specs.Prelude.{nat_eq, is_some, option_map}
use Rattle.std.specs.Map.{lookup}
use Rattle.std.proofs.lemmas.Bool.{eqb-true, eq-eqb}
use Rattle.prim_ops.specs.declared.widths.Width.{Width}
use Rattle.fir_tree.specs.declared.part.Flow.{Flow}
use Rattle.fir_tree.specs.declared.part.Flow.TheVariants.{Source}
use Rattle.type_check.specs.Parts as check
use Rattle.width_rules.specs.declared.component.Component.{Component}
use Rattle.width_rules.specs.declared.rule.Formula.{Formula}
use Rattle.width_rules.specs.declared.rule.Formula.TheVariants as formula
use Rattle.width_rules.specs.declared.rule.Rule.{Rule}
use Rattle.width_rules.specs.Places.{Spot}
use Rattle.width_rules.specs.Sources as sources
use Rattle.width_rules.specs.Sources.{formula_of}
use Rattle.type_filling.specs.Filling.{filled}
use Rattle.width_fit.specs.Judging.{slot_width}
use Rattle.fir_meaning.specs.WellTyped.{Known}
use Rattle.fir_names.proofs.Graphs.{some_same}
use Rattle.fitted_laws.proofs.Steps.{Placed, IsGood}
use Rattle.fitted_laws.proofs.Expressions.{TKnown, WKnown, Knows, Filled, Allows}

-- What is known of the variables: a node's have the formula that they take.
abbrev pub Marks : Type 0
Marks = List (Option Formula)

-- a place with a variable of a node can only be read
abbrev pub Marked : Marks → Flow → Formula → Type 0
Marked ms flow f = (x : ℕ) → f ≡ formula.Var x → (slice_get ms x ≡ Some None) ⊎ (flow ≡ Source)

-- the variable of a rule is no node's, or the rule is the node's own
abbrev pub RuleMarked : Marks → Rule → Type 0
RuleMarked ms rule = (slice_get ms rule.target ≡ Some None) ⊎ (slice_get ms rule.target ≡ Some (Some rule.formula))

pub marks_allow : (ms : Marks) → Allows (Marked ms)
marks_allow ms = record {
  fixed = λ flow n x e. absurd cc;
  op = λ flow prim kinds parts params x e. absurd cc;
  most = λ flow parts x e. absurd cc;
}

pub get_more : {X : Type 0} (xs ys : List X) (k : ℕ) (x : X) → slice_get xs k ≡ Some x → slice_get (xs ++ ys) k ≡ Some x
get_more [] ys k x e = cc
get_more (y ∷ xs) ys zero x e = e
get_more (y ∷ xs) ys (suc k) x e = get_more xs ys k x e

pub get_behind : {X : Type 0} (xs ys : List X) (k : ℕ) → slice_get (xs ++ ys) (length xs + k) ≡ slice_get ys k
get_behind [] ys k = ap (slice_get ys) (omega arith)
get_behind (x ∷ xs) ys k = ap (slice_get (x ∷ (xs ++ ys))) (let e : suc (length xs) + k ≡ suc (length xs + k) = omega arith in e) ∙ get_behind xs ys k

pub more_marked : (ms more : Marks) (flow : Flow) (f : Formula) → Marked ms flow f → Marked (ms ++ more) flow f
more_marked ms more flow f h x e = ⊎_elim (λ l. inl (get_more ms more x None l)) (λ r. inr r) (h x e)

pub more_placed : (ms more : Marks) (flow : Flow) (ss : List Spot) (fs : List Formula) → Placed (Marked ms) flow ss fs → Placed (Marked (ms ++ more)) flow ss fs
more_placed ms more flow [] fs h = tt
more_placed ms more flow (s ∷ ss) [] h = tt
more_placed ms more flow (s ∷ ss) (f ∷ fs) h = (more_marked ms more _ f h.0, more_placed ms more flow ss fs h.1)

pub more_good : (ms more : Marks) (sized : Component) → IsGood (Marked ms) sized → IsGood (Marked (ms ++ more)) sized
more_good ms more sized g = record { counted = g.counted; once = g.once; placed = more_placed ms more sized.part.flow _ _ g.placed; ones = g.ones }

pub more_knows : (ms more : Marks) (tk : TKnown) (wk : WKnown) → Knows (Marked ms) tk wk → Knows (Marked (ms ++ more)) tk wk
more_knows ms more tk wk k = record { same = k.same; good = λ name sized e. more_good ms more sized (k.good name sized e) }

pub more_rule : (ms more : Marks) (rule : Rule) → RuleMarked ms rule → RuleMarked (ms ++ more) rule
more_rule ms more rule h = ⊎_elim (λ l. inl (get_more ms more rule.target None l)) (λ r. inr (get_more ms more rule.target (Some rule.formula) r)) h

-- Names

abbrev or_else : {X : Type 0} → Option X → Option X → Option X
or_else (Some x) other = Some x
or_else None other = other

lookup_more : {X : Type 0} (known : List (ℕ × X)) (name x : ℕ) (v : X) → lookup (nat_eq x) (known ++ (name, v) ∷ []) ≡ or_else (lookup (nat_eq x) known) (cond (nat_eq x name) (Some v) None)
lookup_more [] name x v = refl
lookup_more (e ∷ known) name x v = by (nat_eq x e.0) (lookup_more known name x v) where
  by : (b : Bool) → lookup (nat_eq x) (known ++ (name, v) ∷ []) ≡ or_else (lookup (nat_eq x) known) (cond (nat_eq x name) (Some v) None)
      → cond b (Some e.1) (lookup (nat_eq x) (known ++ (name, v) ∷ [])) ≡ or_else (cond b (Some e.1) (lookup (nat_eq x) known)) (cond (nat_eq x name) (Some v) None)
  by true r = refl
  by false r = r

abbrev with_one : {X : Type 0} → List (ℕ × X) → ℕ → X → List (ℕ × X)
with_one known name v = if is_some (lookup (nat_eq name) known) then known else known ++ (name, v) ∷ []

-- what is found behind one more
with_found : {X : Type 0} (known : List (ℕ × X)) (name x : ℕ) (v : X)
    → lookup (nat_eq x) (with_one known name v) ≡ (if is_some (lookup (nat_eq name) known) then lookup (nat_eq x) known else or_else (lookup (nat_eq x) known) (cond (nat_eq x name) (Some v) None))
with_found known name x v = by (is_some (lookup (nat_eq name) known)) where
  by : (b : Bool) → lookup (nat_eq x) (if b then known else known ++ (name, v) ∷ []) ≡ (if b then lookup (nat_eq x) known else or_else (lookup (nat_eq x) known) (cond (nat_eq x name) (Some v) None))
  by true = refl
  by false = lookup_more known name x v

pub kept_found : {X : Type 0} (known : List (ℕ × X)) (name x : ℕ) (v w : X) → lookup (nat_eq x) known ≡ Some w → lookup (nat_eq x) (with_one known name v) ≡ Some w
kept_found known name x v w e = with_found known name x v ∙ by (is_some (lookup (nat_eq name) known)) where
  by : (b : Bool) → (if b then lookup (nat_eq x) known else or_else (lookup (nat_eq x) known) (cond (nat_eq x name) (Some v) None)) ≡ Some w
  by true = e
  by false = ap (λ o. or_else o (cond (nat_eq x name) (Some v) None)) e

-- the name itself is known then
pub with_itself : {X : Type 0} (known : List (ℕ × X)) (name : ℕ) (v : X) → is_some (lookup (nat_eq name) (with_one known name v)) ≡ true
with_itself known name v = by (lookup (nat_eq name) known) refl where
  by : (o : Option _) → lookup (nat_eq name) known ≡ o → is_some (lookup (nat_eq name) (with_one known name v)) ≡ true
  by (Some w) q = ap is_some (kept_found known name name v w q)
  by None q = ap is_some (with_found known name name v ∙ ap (λ o. if is_some o then lookup (nat_eq name) known else or_else (lookup (nat_eq name) known) (cond (nat_eq name name) (Some v) None)) q
      ∙ ap (λ o. or_else o (cond (nat_eq name name) (Some v) None)) q ∙ ap (λ b. cond b (Some v) None) (eq-eqb name name refl))

-- what is found was there, or is the new one
pub found_before : {X : Type 0} (known : List (ℕ × X)) (name x : ℕ) (v w : X) → lookup (nat_eq x) (with_one known name v) ≡ Some w
    → (lookup (nat_eq x) known ≡ Some w) ⊎ ((x ≡ name) × (v ≡ w))
found_before known name x v w e = by (is_some (lookup (nat_eq name) known)) (sym (with_found known name x v) ∙ e) where
  new : (b : Bool) → nat_eq x name ≡ b → cond b (Some v) None ≡ Some w → (x ≡ name) × (v ≡ w)
  new true q f = (eqb-true x name q, some_same f)
  new false q f = cc

  other : (o : Option _) → lookup (nat_eq x) known ≡ o → or_else o (cond (nat_eq x name) (Some v) None) ≡ Some w → (lookup (nat_eq x) known ≡ Some w) ⊎ ((x ≡ name) × (v ≡ w))
  other (Some y) q f = inl (q ∙ f)
  other None q f = inr (new (nat_eq x name) refl f)

  by : (b : Bool) → (if b then lookup (nat_eq x) known else or_else (lookup (nat_eq x) known) (cond (nat_eq x name) (Some v) None)) ≡ Some w
      → (lookup (nat_eq x) known ≡ Some w) ⊎ ((x ≡ name) × (v ≡ w))
  by true f = inl f
  by false f = other (lookup (nat_eq x) known) refl f

map_else : (o : Option Component) (b : Bool) (v : Component) → or_else (option_map (λ (s : Component). s.part) o) (cond b (Some v.part) None) ≡ option_map (λ (s : Component). s.part) (or_else o (cond b (Some v) None))
map_else (Some s) b v = refl
map_else None true v = refl
map_else None false v = refl

some_map : (o : Option Component) → is_some (option_map (λ (s : Component). s.part) o) ≡ is_some o
some_map (Some s) = refl
some_map None = refl

-- one more component on both sides
pub knows_with : (Q : Flow → Formula → Type 0) (tk : TKnown) (wk : WKnown) (name : ℕ) (sized : Component) → Knows Q tk wk → IsGood Q sized
    → Knows Q (check.known_with tk name (Some sized.part)) (sources.known_with wk name sized)
knows_with Q tk wk name sized k g = record {
  same = λ x. with_found tk name x sized.part
      ∙ ap₂ (λ o p. if is_some o then p else or_else p (cond (nat_eq x name) (Some sized.part) None)) (k.same name) (k.same x)
      ∙ ap (λ b. if b then option_map (λ (s : Component). s.part) (lookup (nat_eq x) wk) else or_else (option_map (λ (s : Component). s.part) (lookup (nat_eq x) wk)) (cond (nat_eq x name) (Some sized.part) None)) (some_map (lookup (nat_eq name) wk))
      ∙ by x (is_some (lookup (nat_eq name) wk))
      ∙ ap (option_map (λ (s : Component). s.part)) (sym (with_found wk name x sized));
  good = λ x s e. ⊎_elim (λ l. k.good x s l) (λ r. subst (IsGood Q) r.1 g) (found_before wk name x sized s e);
}
  where
    by : (x : ℕ) (b : Bool)
        → (if b then option_map (λ (s : Component). s.part) (lookup (nat_eq x) wk) else or_else (option_map (λ (s : Component). s.part) (lookup (nat_eq x) wk)) (cond (nat_eq x name) (Some sized.part) None))
        ≡ option_map (λ (s : Component). s.part) (if b then lookup (nat_eq x) wk else or_else (lookup (nat_eq x) wk) (cond (nat_eq x name) (Some sized) None))
    by x true = refl
    by x false = map_else (lookup (nat_eq x) wk) (nat_eq x name) sized

pub filled_with : (ws : List Width) (wk : WKnown) (name : ℕ) (sized : Component) (K : Known) → Filled ws wk K → K name ≡ Some (filled sized.part.typ (map (slot_width ws) sized.slots))
    → Filled ws (sources.known_with wk name sized) K
filled_with ws wk name sized K h e x s f =
    ⊎_elim (λ l. h x s l) (λ r. ap K r.0 ∙ e ∙ ap (λ (z : Component). Some (filled z.part.typ (map (slot_width ws) z.slots))) r.1) (found_before wk name x sized s f)
