-- Live connects on both sides.
use Rattle.std.proofs.Common.{◌≡◌, ℕ, ◌&&◌, ◌||◌, Bool, true, false, List, [], ◌∷◌, ◌++◌, map, flat_map, refl, sym, ap, ap₂, ◌∙◌, subst, if◌then◌else◌, append_assoc, true≢false, ◌⊎◌, inl, inr, ⊎_elim}
use Rattle.std.specs.Prelude.{Contains}
use Rattle.std.specs.List.{list_any}
use Rattle.std.proofs.lemmas.Grind.{flat_map-append}
use Rattle.std.proofs.lemmas.List.Elements.{Contains-append_left, Contains-append_right, Contains-append_cases}
use Rattle.fir_meaning.specs.Components.{Leaf}
use Rattle.fir_meaning.specs.Mentions as tree_reads
use Rattle.fir_meaning.specs.Loops as tree_loops
use Rattle.ground_net.specs.Grounds.{joined}
use Rattle.ground_net.specs.Statements.{Driving, live_from, crossing}
use Rattle.ground_exprs.specs.Numbers.{Numbering, SameLeaves}
use Rattle.ground_exprs.proofs.Members.{not_in_none, in_map, from_map, in_flat_map, from_flat_map, in_front}
use Rattle.ground_exprs.proofs.Onwards.{same_none, same_append}
use Rattle.ground_statements.specs.Connects.{SameLives, has_none}

-- What later statements cover

covered_more : (p q : Bool) (a b c : List (List ℕ)) → (if p || q then [] else a) ++ ((if q then [] else b) ++ c) ≡ (if q then [] else (if p then [] else a) ++ b) ++ c
covered_more p true a b c = if_either p
  where
    if_either : (p : Bool) → (if p || true then [] else a) ++ ([] ++ c) ≡ [] ++ c
    if_either true = refl
    if_either false = refl
covered_more true false a b c = refl
covered_more false false a b c = sym (append_assoc a b c)

pub certain_append : (us bs : List Driving) → list_any (λ t. t.certain) (us ++ bs) ≡ (list_any (λ t. t.certain) us || list_any (λ t. t.certain) bs)
certain_append [] bs = refl
certain_append (a ∷ us) bs = ap (λ b. a.certain || b) (certain_append us bs) ∙ either a.certain (list_any (λ t. t.certain) us) (list_any (λ t. t.certain) bs)
  where
    either : (a b c : Bool) → (a || (b || c)) ≡ ((a || b) || c)
    either true b c = refl
    either false b c = refl

nothing : (b : Bool) (l : List (List ℕ)) → l ≡ (if b then [] else []) ++ l
nothing true l = refl
nothing false l = refl

pub live_append : (us bs : List Driving) → live_from (us ++ bs) ≡ (if list_any (λ t. t.certain) bs then [] else live_from us) ++ live_from bs
live_append [] bs = nothing (list_any (λ t. t.certain) bs) (live_from bs)
live_append (a ∷ us) bs =
    ap₂ (λ b l. (if b then [] else a.live) ++ l) (certain_append us bs) (live_append us bs)
    ∙ covered_more (list_any (λ t. t.certain) us) (list_any (λ t. t.certain) bs) a.live (live_from us) (live_from bs)

tree_covered_more : (p q : Bool) (a b c : List (List Leaf)) → (if p || q then [] else a) ++ ((if q then [] else b) ++ c) ≡ (if q then [] else (if p then [] else a) ++ b) ++ c
tree_covered_more true true a b c = refl
tree_covered_more false true a b c = refl
tree_covered_more true false a b c = refl
tree_covered_more false false a b c = sym (append_assoc a b c)

tree_any_append : (us bs : List tree_loops.Driving) → list_any (λ t. t.certain) (us ++ bs) ≡ (list_any (λ t. t.certain) us || list_any (λ t. t.certain) bs)
tree_any_append [] bs = refl
tree_any_append (a ∷ us) bs = ap (λ b. a.certain || b) (tree_any_append us bs) ∙ either a.certain (list_any (λ t. t.certain) us) (list_any (λ t. t.certain) bs)
  where
    either : (a b c : Bool) → (a || (b || c)) ≡ ((a || b) || c)
    either true b c = refl
    either false b c = refl

tree_nothing : (b : Bool) (l : List (List Leaf)) → l ≡ (if b then [] else []) ++ l
tree_nothing true l = refl
tree_nothing false l = refl

pub tree_live_append : (us bs : List tree_loops.Driving) → tree_loops.live_from (us ++ bs) ≡ (if list_any (λ t. t.certain) bs then [] else tree_loops.live_from us) ++ tree_loops.live_from bs
tree_live_append [] bs = tree_nothing (list_any (λ t. t.certain) bs) (tree_loops.live_from bs)
tree_live_append (a ∷ us) bs =
    ap₂ (λ b l. (if b then [] else a.live) ++ l) (tree_any_append us bs) (tree_live_append us bs)
    ∙ tree_covered_more (list_any (λ t. t.certain) us) (list_any (λ t. t.certain) bs) a.live (tree_loops.live_from us) (tree_loops.live_from bs)

-- The same on both sides

pub lives_none : (n : Numbering) → SameLives n [] []
lives_none n = record { none = refl; leaves = same_none n }

none_append : {A : Type 0} (xs ys : List A) → has_none (xs ++ ys) ≡ (has_none xs && has_none ys)
none_append [] ys = refl
none_append (x ∷ xs) ys = refl

pub lives_append : (n : Numbering) (xs ys : List (List Leaf)) (us bs : List (List ℕ)) → SameLives n xs us → SameLives n ys bs → SameLives n (xs ++ ys) (us ++ bs)
lives_append n xs ys us bs p q = record {
  none = none_append us bs ∙ ap₂ (λ a b. a && b) p.none q.none ∙ sym (none_append xs ys);
  leaves = subst (λ l. SameLeaves n l (joined (us ++ bs))) (sym (flat_map-append (λ (l : List Leaf). l) xs ys))
      (subst (SameLeaves n (tree_reads.joined xs ++ tree_reads.joined ys)) (sym (flat_map-append (λ (l : List ℕ). l) us bs))
      (same_append n (tree_reads.joined xs) (tree_reads.joined ys) (joined us) (joined bs) p.leaves q.leaves));
}

pub lives_unless : (n : Numbering) (b c : Bool) (xs : List (List Leaf)) (us : List (List ℕ)) → c ≡ b → SameLives n xs us → SameLives n (if b then [] else xs) (if c then [] else us)
lives_unless n true true xs us e p = lives_none n
lives_unless n true false xs us e p = absurd (true≢false (sym e))
lives_unless n false true xs us e p = absurd (true≢false e)
lives_unless n false false xs us e p = p

-- Conditions that are crossed

none_map : {A B : Type 0} (f : A → B) (xs : List A) → has_none (map f xs) ≡ has_none xs
none_map f [] = refl
none_map f (x ∷ xs) = refl

cross_cases : {A : Type 0} (c : List A) (ls : List (List A)) (x : A) → Contains (flat_map (λ l. l) (map (λ l. c ++ l) ls)) x → ((has_none ls ≡ false) × Contains c x) ⊎ Contains (flat_map (λ l. l) ls) x
cross_cases {A} c ls x h =
    let f = from_flat_map (λ (l : List A). l) (map (λ l. c ++ l) ls) x h in
    let g = from_map (λ l. c ++ l) ls f.0 f.1 in
    ⊎_elim (λ i. inl (some_there ls g.0 g.1, i)) (λ i. inr (in_flat_map (λ (l : List A). l) ls g.0 x g.1 i)) (Contains-append_cases c g.0 x (subst (λ l. Contains l x) (sym g.2) f.2))
  where
    some_there : (ls : List (List A)) (l : List A) → Contains ls l → has_none ls ≡ false
    some_there [] l i = absurd (not_in_none l i)
    some_there (k ∷ ls) l i = refl

cross_inner : {A : Type 0} (c : List A) (ls : List (List A)) (x : A) → Contains (flat_map (λ l. l) ls) x → Contains (flat_map (λ l. l) (map (λ l. c ++ l) ls)) x
cross_inner {A} c ls x h =
    let f = from_flat_map (λ (l : List A). l) ls x h in
    in_flat_map (λ (l : List A). l) (map (λ l. c ++ l) ls) (c ++ f.0) x (in_map (λ l. c ++ l) ls f.0 f.1) (Contains-append_right c f.0 x f.2)

cross_condition : {A : Type 0} (c : List A) (ls : List (List A)) (x : A) → has_none ls ≡ false → Contains c x → Contains (flat_map (λ l. l) (map (λ l. c ++ l) ls)) x
cross_condition c [] x e h = absurd (true≢false e)
cross_condition {A} c (l ∷ ls) x e h =
    in_flat_map (λ (l : List A). l) (map (λ l. c ++ l) (l ∷ ls)) (c ++ l) x (in_front (c ++ l) (map (λ l. c ++ l) ls)) (Contains-append_left c l x h)

pub lives_crossing : (n : Numbering) (cs : List Leaf) (ds : List ℕ) (xs : List (List Leaf)) (us : List (List ℕ)) → SameLeaves n cs ds → SameLives n xs us → SameLives n (tree_loops.crossing cs xs) (crossing ds us)
lives_crossing n cs ds xs us c p = record {
  none = none_map (λ l. ds ++ l) us ∙ p.none ∙ sym (none_map (λ l. cs ++ l) xs);
  leaves = record {
    only = λ x h. ⊎_elim
        (λ l. let f = c.only x l.1 in (f.0, cross_condition cs xs f.0 (sym p.none ∙ l.0) f.1, f.2))
        (λ r. let f = p.leaves.only x r in (f.0, cross_inner cs xs f.0 f.1, f.2))
        (cross_cases ds us x h);
    all = λ z h. ⊎_elim
        (λ l. let f = c.all z l.1 in (f.0, f.1, cross_condition ds us f.0 (p.none ∙ l.0) f.2))
        (λ r. let f = p.leaves.all z r in (f.0, f.1, cross_inner ds us f.0 f.2))
        (cross_cases cs xs z h);
  };
}
