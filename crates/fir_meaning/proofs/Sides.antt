-- One side of a connect: what it sets in a leaf depends on what it mentions for it alone.
use Rattle.std.proofs.Common.{◌≡◌, zero, suc, Bool, true, false, cond, not, ◌&&◌, ◌||◌, List, [], ◌∷◌, ◌++◌, map, fold, filter_map, Option, Some, None, ℤ, refl, sym, ap, ◌∙◌, subst, arith, true≢false, is_some, if◌then◌else◌, ◌⊎◌, inl, inr, ⊎_elim}
use Rattle.std.specs.Prelude.{Contains}
use Rattle.std.specs.List.{list_any, cons_option}
use Rattle.std.proofs.lemmas.List.Concat.{flat_map-cons}
use Rattle.bit_words.specs.declared.value.Value.{Value}
use Rattle.fir_types.specs.declared.leaf.TypeLeaf.{TypeLeaf}
use Rattle.fir_types.specs.declared.leaf.PathStep.{PathStep}
use Rattle.fir_types.specs.Leaves.{leaves}
use Rattle.fir_tree.specs.declared.expr.Expr.{Expr}
use Rattle.fir_tree.specs.declared.expr.Form.{Form}
use Rattle.fir_tree.specs.declared.expr.Suffix.{Suffix}
use Rattle.fir_tree.specs.declared.expr.Form.TheOpen.{Form-F}
use Rattle.fir_tree.specs.declared.expr.Form.TheViews.{out-Form}
use Rattle.fir_meaning.specs.Components.{Leaf}
use Rattle.fir_meaning.specs.Values.{Integers, scene_with, Spot, suffix_step, spot_of, spot_of_form, beside, lone}
use Rattle.fir_meaning.specs.Mentions.{Scope, Region, Agree, joined, suffix_onward, region_of, region_of_form, leaves_at}
use Rattle.fir_meaning.specs.Drives.{Setting, setting, is_turned, same_leaf, of_orientation, set_along, set_at, left_in}
use Rattle.fir_meaning.specs.Certain.{may_be, may_name, surely_names}
use Rattle.fir_meaning.specs.Loops.{Driving, Mentioned, driven_from}
use Rattle.fir_meaning.proofs.Tracking.{Tracks, tracks_none, tracks_next, Paired, suffix_paired, whole_paired, Contains-map, agree-left, agree-right, none_some, some_same}
use Rattle.fir_meaning.proofs.Covering.{One, Two, cons_nil, true_or_false, and_left, and_right, joined-append, append_nil_left, append_nil_right, or_false}

-- What an expression names in two scenes, and may name at all.
pub data Named (f g : Integers) : Option Region → Option Spot → Option Spot → Type 0 where
  unnamed : Named f g None None None
  named : {region : Region} {s t : Spot} → Paired f g region s t → Named f g (Some region) (Some s) (Some t)

follow_named : (types : Scope) (f g : Integers) (suffixes : List Suffix) (region : Region) (a b : Spot) → Paired f g region a b
    → Paired f g (fold (λ r to. to types r) region (map suffix_onward suffixes))
    (fold (λ spot to. to (scene_with types f) spot) a (map suffix_step suffixes)) (fold (λ spot to. to (scene_with types g) spot) b (map suffix_step suffixes))
follow_named types f g [] region a b p = p
follow_named types f g (s ∷ suffixes) region a b p =
    follow_named types f g suffixes (suffix_onward s types region) (suffix_step s (scene_with types f) a) (suffix_step s (scene_with types g) b) (suffix_paired s types f g region a b p)

named_form : (types : Scope) (f g : Integers) (y : Form-F Form Suffix Expr) → Named f g (region_of_form types y) (spot_of_form (scene_with types f) y) (spot_of_form (scene_with types g) y)
named_form types f g (Form-F.Ref name suffixes) = named (follow_named types f g suffixes _ _ _ (whole_paired types f g name.id))
named_form types f g (Form-F.Literal kind width n) = unnamed
named_form types f g (Form-F.Prim prim es params) = unnamed
named_form types f g (Form-F.Mux es) = unnamed

pub named_by : (types : Scope) (f g : Integers) (e : Expr) → Named f g (region_of types e) (spot_of (scene_with types f) e) (spot_of (scene_with types g) e)
named_by types f g e = named_form types f g (out-Form e.form)

-- Lists

or_left_false : (a b : Bool) → (a || b) ≡ false → a ≡ false
or_left_false true b e = e
or_left_false false b e = refl

or_right_false : (a b : Bool) → (a || b) ≡ false → b ≡ false
or_right_false true b e = absurd (true≢false e)
or_right_false false b e = e

any_false : {A : Type 0} (p : A → Bool) (xs : List A) (x : A) → list_any p xs ≡ false → Contains xs x → p x ≡ false
any_false p [] x e (k, below, is) = absurd (omega arith)
any_false p (y ∷ ys) x e (zero, below, is) = ap p (sym is) ∙ or_left_false (p y) (list_any p ys) e
any_false p (y ∷ ys) x e (suc k, below, is) = any_false p ys x (or_right_false (p y) (list_any p ys) e) (k, omega arith, is)

abbrev head_or : {A : Type 0} → A → List A → A
head_or d [] = d
head_or d (x ∷ xs) = x

abbrev tail : {A : Type 0} → List A → List A
tail [] = []
tail (x ∷ xs) = xs

beside-cons : {A B : Type 0} (d : B) (a : A) (rest : List A) (bs : List B) → beside d (a ∷ rest) bs ≡ (a, head_or d bs) ∷ beside d rest (tail bs)
beside-cons d a rest [] = refl
beside-cons d a rest (b ∷ bs) = refl

-- What the settings leave

pub left_in-append : (leaf : Leaf) (last : Option ℤ) (xs ys : List Setting) → left_in leaf last (xs ++ ys) ≡ left_in leaf (left_in leaf last xs) ys
left_in-append leaf last [] ys = refl
left_in-append leaf last (x ∷ xs) ys = left_in-append leaf (if same_leaf x.leaf leaf then Some x.integer else last) xs ys

left_in-keeps : (leaf : Leaf) (ss : List Setting) (last : Option ℤ) → is_some last ≡ true → is_some (left_in leaf last ss) ≡ true
left_in-keeps leaf [] last h = h
left_in-keeps leaf (s ∷ ss) last h = left_in-keeps leaf ss (if same_leaf s.leaf leaf then Some s.integer else last) (kept (same_leaf s.leaf leaf) last h) where
  kept : (b : Bool) (last : Option ℤ) → is_some last ≡ true → is_some (if b then Some s.integer else last) ≡ true
  kept true last h = refl
  kept false last h = h

module _ (flip : Bool) (region : Region) (leaf : Leaf) (w : List PathStep) where
  abbrev put : TypeLeaf × Value → Option ℤ → Option ℤ
  put both last = if is_turned flip both.0 then (if same_leaf (setting region.component w both).leaf leaf then Some (setting region.component w both).integer else last) else last

  abbrev set_pairs : List (TypeLeaf × Value) → List Setting
  set_pairs pairs = map (setting region.component w) (of_orientation flip pairs)

  put_first : (both : TypeLeaf × Value) (pairs : List (TypeLeaf × Value)) (last : Option ℤ) → left_in leaf last (set_pairs (both ∷ pairs)) ≡ left_in leaf (put both last) (set_pairs pairs)
  put_first both pairs last = by_turn (is_turned flip both.0) where
    by_turn : (b : Bool) → left_in leaf last (map (setting region.component w) (cond b (both ∷ of_orientation flip pairs) (of_orientation flip pairs)))
        ≡ left_in leaf (if b then (if same_leaf (setting region.component w both).leaf leaf then Some (setting region.component w both).integer else last) else last) (set_pairs pairs)
    by_turn true = refl
    by_turn false = refl

  abbrev set_list : List TypeLeaf → List Value → List Setting
  set_list ls vs = set_pairs (beside (lone []) ls vs)

  set_next : (l : TypeLeaf) (ls : List TypeLeaf) (vs : List Value) (last : Option ℤ)
      → left_in leaf last (set_list (l ∷ ls) vs) ≡ left_in leaf (put (l, head_or (lone []) vs) last) (set_list ls (tail vs))
  set_next l ls vs last =
      ap (λ pairs. left_in leaf last (set_pairs pairs)) (beside-cons (lone []) l ls vs) ∙ put_first (l, head_or (lone []) vs) (beside (lone []) ls (tail vs)) last

  abbrev named_at : TypeLeaf → Leaf
  named_at l = record { component = region.component; way = w ++ l.path }

  -- a part that cannot be the leaf leaves it alone
  put_other : Contains region.ways w → (l : TypeLeaf) (v : Value) → may_be flip region leaf l ≡ false → (last : Option ℤ) → put (l, v) last ≡ last
  put_other c l v e last = by_turn (is_turned flip l) e where
    by_same : (b : Bool) → b ≡ false → (if b then Some (setting region.component w (l, v)).integer else last) ≡ last
    by_same true q = absurd (true≢false q)
    by_same false q = refl

    by_turn : (b : Bool) → (b && list_any (λ at. same_leaf at leaf) (leaves_at region l.path)) ≡ false
        → (if b then (if same_leaf (setting region.component w (l, v)).leaf leaf then Some (setting region.component w (l, v)).integer else last) else last) ≡ last
    by_turn true q =
        by_same (same_leaf (setting region.component w (l, v)).leaf leaf)
        (any_false (λ at. same_leaf at leaf) (leaves_at region l.path) (named_at l) q (Contains-map (λ way. record { component = region.component; way = way ++ l.path }) region.ways w c))
    by_turn false q = refl

  -- two values, which are the same where the part may be the leaf
  put_same : Contains region.ways w → (l : TypeLeaf) (v u : Value) → (may_be flip region leaf l ≡ true → v ≡ u) → (last : Option ℤ) → put (l, v) last ≡ put (l, u) last
  put_same c l v u h last = ⊎_elim (λ q. ap (λ x. put (l, x) last) (h q)) (λ q. put_other c l v q last ∙ sym (put_other c l u q last)) (true_or_false (may_be flip region leaf l))

  or_nothing : (b : Bool) → (b || false) ≡ b
  or_nothing true = refl
  or_nothing false = refl

  -- a part that surely is the leaf sets it
  put_sure : region.ways ≡ w ∷ [] → (l : TypeLeaf) (v : Value) → may_be flip region leaf l ≡ true → (last : Option ℤ) → put (l, v) last ≡ Some (setting region.component w (l, v)).integer
  put_sure e l v q last =
      let turned : is_turned flip l ≡ true = and_left (is_turned flip l) (list_any (λ at. same_leaf at leaf) (leaves_at region l.path)) q in
      let among : list_any (λ at. same_leaf at leaf) (leaves_at region l.path) ≡ true = and_right (is_turned flip l) (list_any (λ at. same_leaf at leaf) (leaves_at region l.path)) q in
      let alone : list_any (λ at. same_leaf at leaf) (named_at l ∷ []) ≡ true =
      subst (λ ways. list_any (λ at. same_leaf at leaf) (map (λ way. record { component = region.component; way = way ++ l.path }) ways) ≡ true) e among in
      let same : same_leaf (named_at l) leaf ≡ true = sym (or_nothing (same_leaf (named_at l) leaf)) ∙ alone in
      ap (λ b. if b then (if same_leaf (named_at l) leaf then Some (setting region.component w (l, v)).integer else last) else last) turned
      ∙ ap (λ b. if b then Some (setting region.component w (l, v)).integer else last) same

  -- What is mentioned

  abbrev mentioned_for : TypeLeaf × List Leaf → Option Mentioned
  mentioned_for both = if may_be flip region leaf both.0 then Some (region.indices ++ both.1) else None

  abbrev mention_list : List TypeLeaf → List (List Leaf) → List Mentioned
  mention_list ls ms = filter_map mentioned_for (beside [] ls ms)

  mention_next : (l : TypeLeaf) (ls : List TypeLeaf) (ms : List (List Leaf)) → mention_list (l ∷ ls) ms ≡ cons_option (mentioned_for (l, head_or [] ms)) (mention_list ls (tail ms))
  mention_next l ls ms = ap (filter_map mentioned_for) (beside-cons [] l ls ms)

  mention_here : (l : TypeLeaf) (ls : List TypeLeaf) (ms : List (List Leaf)) → may_be flip region leaf l ≡ true
      → mention_list (l ∷ ls) ms ≡ (region.indices ++ head_or [] ms) ∷ mention_list ls (tail ms)
  mention_here l ls ms q = mention_next l ls ms ∙ ap (λ b. cons_option (if b then Some (region.indices ++ head_or [] ms) else None) (mention_list ls (tail ms))) q

  mention_none : (l : TypeLeaf) (ls : List TypeLeaf) (ms : List (List Leaf)) → may_be flip region leaf l ≡ false → mention_list (l ∷ ls) ms ≡ mention_list ls (tail ms)
  mention_none l ls ms q = mention_next l ls ms ∙ ap (λ b. cons_option (if b then Some (region.indices ++ head_or [] ms) else None) (mention_list ls (tail ms))) q

  -- where nothing is mentioned, nothing is set
  quiet_list : Contains region.ways w → (ls : List TypeLeaf) (ms : List (List Leaf)) (vs : List Value) → mention_list ls ms ≡ [] → (last : Option ℤ) → left_in leaf last (set_list ls vs) ≡ last
  quiet_list c [] ms vs n last = refl
  quiet_list c (l ∷ ls) ms vs n last = ⊎_elim
      (λ q. absurd (cons_nil (region.indices ++ head_or [] ms) (mention_list ls (tail ms)) (sym (mention_here l ls ms q) ∙ n)))
      (λ q. set_next l ls vs last ∙ (ap (λ o. left_in leaf o (set_list ls (tail vs))) (put_other c l (head_or (lone []) vs) q last)
      ∙ quiet_list c ls (tail ms) (tail vs) (sym (mention_none l ls ms q) ∙ n) last))
      (true_or_false (may_be flip region leaf l))

  any_later : (l : TypeLeaf) (ls : List TypeLeaf) → may_be flip region leaf l ≡ false → list_any (may_be flip region leaf) (l ∷ ls) ≡ true → list_any (may_be flip region leaf) ls ≡ true
  any_later l ls q e = sym (ap (λ b. b || list_any (may_be flip region leaf) ls) q) ∙ e

  -- some part may be the leaf, and so something is mentioned
  alive_list : (ls : List TypeLeaf) (ms : List (List Leaf)) → list_any (may_be flip region leaf) ls ≡ true → mention_list ls ms ≡ [] → ⊥
  alive_list [] ms e n = true≢false (sym e)
  alive_list (l ∷ ls) ms e n = ⊎_elim
      (λ q. cons_nil (region.indices ++ head_or [] ms) (mention_list ls (tail ms)) (sym (mention_here l ls ms q) ∙ n))
      (λ q. alive_list ls (tail ms) (any_later l ls q e) (sym (mention_none l ls ms q) ∙ n))
      (true_or_false (may_be flip region leaf l))

  -- a part that surely is the leaf decides it
  fixed_list : region.ways ≡ w ∷ [] → (ls : List TypeLeaf) (vs : List Value) → list_any (may_be flip region leaf) ls ≡ true → (last other : Option ℤ)
      → left_in leaf last (set_list ls vs) ≡ left_in leaf other (set_list ls vs)
  fixed_list e [] vs h last other = absurd (true≢false (sym h))
  fixed_list e (l ∷ ls) vs h last other = ⊎_elim
      (λ q. set_next l ls vs last ∙ (ap (λ o. left_in leaf o (set_list ls (tail vs))) (put_sure e l (head_or (lone []) vs) q last ∙ sym (put_sure e l (head_or (lone []) vs) q other))
      ∙ sym (set_next l ls vs other)))
      (λ q. set_next l ls vs last ∙ (fixed_list e ls (tail vs) (any_later l ls q h) (put (l, head_or (lone []) vs) last) (put (l, head_or (lone []) vs) other) ∙ sym (set_next l ls vs other)))
      (true_or_false (may_be flip region leaf l))

  some_list : region.ways ≡ w ∷ [] → (ls : List TypeLeaf) (vs : List Value) → list_any (may_be flip region leaf) ls ≡ true → (last : Option ℤ) → is_some (left_in leaf last (set_list ls vs)) ≡ true
  some_list e [] vs h last = absurd (true≢false (sym h))
  some_list e (l ∷ ls) vs h last = ap is_some (set_next l ls vs last) ∙ ⊎_elim
      (λ q. left_in-keeps leaf (set_list ls (tail vs)) (put (l, head_or (lone []) vs) last) (ap is_some (put_sure e l (head_or (lone []) vs) q last)))
      (λ q. some_list e ls (tail vs) (any_later l ls q h) (put (l, head_or (lone []) vs) last))
      (true_or_false (may_be flip region leaf l))

  -- Two lists of values that are the same where what is mentioned agrees.
  same_list : (f g : Integers) → Contains region.ways w → (ls : List TypeLeaf) {ms : List (List Leaf)} {vs ws : List Value} → Tracks f g ms vs ws
      → Agree f g (joined (mention_list ls ms)) → (last : Option ℤ) → left_in leaf last (set_list ls vs) ≡ left_in leaf last (set_list ls ws)
  same_list f g c [] t a last = refl
  same_list f g c (l ∷ ls) tracks_none a last = refl
  same_list f g c (l ∷ ls) (tracks_next {m} {v} {w = u} {ms} {vs} {ws} h t) a last =
      let value_same : may_be flip region leaf l ≡ true → v ≡ u =
      λ q. h (agree-right region.indices m (agree-left (region.indices ++ m) (joined (mention_list ls ms))
      (subst (Agree f g) (flat_map-cons (λ x. x) (region.indices ++ m) (mention_list ls ms)) (subst (λ x. Agree f g (joined x)) (mention_here l ls (m ∷ ms) q) a)))) in
      let later : Agree f g (joined (mention_list ls ms)) = ⊎_elim
      (λ q. agree-right (region.indices ++ m) (joined (mention_list ls ms))
      (subst (Agree f g) (flat_map-cons (λ x. x) (region.indices ++ m) (mention_list ls ms)) (subst (λ x. Agree f g (joined x)) (mention_here l ls (m ∷ ms) q) a)))
      (λ q. subst (λ x. Agree f g (joined x)) (mention_none l ls (m ∷ ms) q) a)
      (true_or_false (may_be flip region leaf l)) in
      set_next l ls (v ∷ vs) last ∙ (ap (λ o. left_in leaf o (set_list ls vs)) (put_same c l v u value_same last)
      ∙ (same_list f g c ls t later (put (l, u) last) ∙ sym (set_next l ls (u ∷ ws) last)))

-- A side, as one statement

abbrev pub side : Bool → Leaf → List (List Leaf) → Option Region → Driving
side flip leaf sources region = record { certain = surely_names flip region leaf; live = driven_from flip leaf sources region }

not_true : (b : Bool) → not b ≡ true → b ≡ false
not_true true e = absurd (true≢false (sym e))
not_true false e = refl

-- where the way is known
along_one : (flip : Bool) (leaf : Leaf) (region : Region) (ms : List (List Leaf)) (vs : List Value) (o : Option (List PathStep))
    → ((w : List PathStep) → o ≡ Some w → Contains region.ways w) → (region.dynamic ≡ false → (w : List PathStep) × (o ≡ Some w) × (region.ways ≡ w ∷ []))
    → One (side flip leaf ms (Some region)) (λ last. left_in leaf last (set_along flip (record { component = region.component; typ = region.typ; way = o }) o vs))
along_one flip leaf region ms vs (Some w) within static =
    let alone : surely_names flip (Some region) leaf ≡ true → region.ways ≡ w ∷ [] =
    λ c. let st = static (not_true region.dynamic (and_left (not region.dynamic) (may_name flip (Some region) leaf) c)) in
    st.2 ∙ ap (λ v. v ∷ []) (sym (some_same w st.0 st.1)) in
    let named_there : surely_names flip (Some region) leaf ≡ true → list_any (may_be flip region leaf) (leaves region.typ) ≡ true =
    λ c. and_right (not region.dynamic) (may_name flip (Some region) leaf) c in
    record {
      quiet = λ n last. quiet_list flip region leaf w (within w refl) (leaves region.typ) ms vs n last;
      fixed = λ c last other. fixed_list flip region leaf w (alone c) (leaves region.typ) vs (named_there c) last other;
      some = λ c last. some_list flip region leaf w (alone c) (leaves region.typ) vs (named_there c) last;
      keeps = λ last h. left_in-keeps leaf (set_list flip region leaf w (leaves region.typ) vs) last h;
      alive = λ c n. alive_list flip region leaf w (leaves region.typ) ms (named_there c) n;
    }
along_one flip leaf region ms vs None within static =
    let never : surely_names flip (Some region) leaf ≡ true → ⊥ =
    λ c. none_some (static (not_true region.dynamic (and_left (not region.dynamic) (may_name flip (Some region) leaf) c))).1 in
    record {
      quiet = λ n last. refl;
      fixed = λ c last other. absurd (never c);
      some = λ c last. absurd (never c);
      keeps = λ last h. h;
      alive = λ c n. never c;
    }

along_same : (flip : Bool) (leaf : Leaf) (s : Spot) (region : Region) (vs : List Value) (o : Option (List PathStep)) → s.component ≡ region.component → s.typ ≡ region.typ
    → set_along flip s o vs ≡ set_along flip (record { component = region.component; typ = region.typ; way = o }) o vs
along_same flip leaf s region vs (Some w) c t =
    ap (λ x. map (setting x w) (of_orientation flip (beside (lone []) (leaves s.typ) vs))) c ∙ ap (λ x. map (setting region.component w) (of_orientation flip (beside (lone []) (leaves x) vs))) t
along_same flip leaf s region vs None c t = refl

pub side_one : {f : Integers} {R : Option Region} {S T : Option Spot} → Named f f R S T → (flip : Bool) (leaf : Leaf) (ms : List (List Leaf)) (vs : List Value)
    → One (side flip leaf ms R) (λ last. left_in leaf last (set_at flip S vs))
side_one unnamed flip leaf ms vs = record {
  quiet = λ n last. refl;
  fixed = λ c last other. absurd (true≢false (sym c));
  some = λ c last. absurd (true≢false (sym c));
  keeps = λ last h. h;
  alive = λ c n. true≢false (sym c);
}
side_one (named {region} {s} {t} p) flip leaf ms vs =
    subst (λ ss. One (side flip leaf ms (Some region)) (λ last. left_in leaf last ss)) (sym (along_same flip leaf s region vs s.way p.component_s p.type_s))
    (along_one flip leaf region ms vs s.way p.within p.static)

-- two scenes whose ways are the same
ways_same : (f g : Integers) (flip : Bool) (leaf : Leaf) (region : Region) {ms : List (List Leaf)} {vs ws : List Value} → Tracks f g ms vs ws → (o : Option (List PathStep))
    → ((w : List PathStep) → o ≡ Some w → Contains region.ways w) → Agree f g (joined (driven_from flip leaf ms (Some region))) → (last : Option ℤ)
    → left_in leaf last (set_along flip (record { component = region.component; typ = region.typ; way = o }) o vs)
    ≡ left_in leaf last (set_along flip (record { component = region.component; typ = region.typ; way = o }) o ws)
ways_same f g flip leaf region t (Some w) within a last = same_list flip region leaf w f g (within w refl) (leaves region.typ) t a last
ways_same f g flip leaf region t None within a last = refl

-- something is mentioned, and with it the indices, or nothing is
indices_or_none : (f g : Integers) (flip : Bool) (leaf : Leaf) (region : Region) (ls : List TypeLeaf) (ms : List (List Leaf))
    → (mention_list flip region leaf [] ls ms ≡ []) ⊎ (Agree f g (joined (mention_list flip region leaf [] ls ms)) → Agree f g region.indices)
indices_or_none f g flip leaf region [] ms = inl refl
indices_or_none f g flip leaf region (l ∷ ls) ms = ⊎_elim
    (λ q. inr (λ a. agree-left region.indices (head_or [] ms) (agree-left (region.indices ++ head_or [] ms) (joined (mention_list flip region leaf [] ls (tail ms)))
    (subst (Agree f g) (flat_map-cons (λ x. x) (region.indices ++ head_or [] ms) (mention_list flip region leaf [] ls (tail ms)))
    (subst (λ x. Agree f g (joined x)) (mention_here flip region leaf [] l ls ms q) a)))))
    (λ q. ⊎_elim (λ n. inl (mention_none flip region leaf [] l ls ms q ∙ n)) (λ h. inr (λ a. h (subst (λ x. Agree f g (joined x)) (mention_none flip region leaf [] l ls ms q) a)))
    (indices_or_none f g flip leaf region ls (tail ms)))
    (true_or_false (may_be flip region leaf l))

pub side_two : {f g : Integers} {R : Option Region} {S T S' T' : Option Spot} → Named f g R S T → Named f f R S S' → Named g g R T T' → (flip : Bool) (leaf : Leaf)
    → {ms : List (List Leaf)} {vs ws : List Value} → Tracks f g ms vs ws
    → Two f g (side flip leaf ms R) (λ last. left_in leaf last (set_at flip S vs)) (λ last. left_in leaf last (set_at flip T ws))
side_two unnamed p q flip leaf {ms} {vs} {ws} t = record { here = side_one p flip leaf ms vs; there = side_one q flip leaf ms ws; same = λ a last. refl }
side_two {f} {g} (named {region} {s} {t = other} n) p q flip leaf {ms} {vs} {ws} t =
    let here : One (side flip leaf ms (Some region)) (λ last. left_in leaf last (set_at flip (Some s) vs)) = side_one p flip leaf ms vs in
    let there : One (side flip leaf ms (Some region)) (λ last. left_in leaf last (set_at flip (Some other) ws)) = side_one q flip leaf ms ws in
    record {
      here = here;
      there = there;
      same = λ a last. ⊎_elim
          (λ none. here.quiet none last ∙ sym (there.quiet none last))
          (λ h.
          let ways : s.way ≡ other.way = n.same (h a) in
          ap (left_in leaf last) (along_same flip leaf s region vs s.way n.component_s n.type_s)
          ∙ (ways_same f g flip leaf region t s.way n.within a last
          ∙ (ap (left_in leaf last) (sym (along_same flip leaf other region ws s.way n.component_t n.type_t)) ∙ ap (λ o. left_in leaf last (set_along flip other o ws)) ways)))
          (indices_or_none f g flip leaf region (leaves region.typ) ms);
    }

-- Two sides after one another

abbrev pub both_of : Driving → Driving → Driving
both_of a b = record { certain = a.certain || b.certain; live = a.live ++ b.live }

both_one : (a b : Driving) (x y : Option ℤ → Option ℤ) → One a x → One b y → One (both_of a b) (λ last. y (x last))
both_one a b x y o p = record {
  quiet = λ n last. p.quiet (append_nil_right a.live b.live n) (x last) ∙ o.quiet (append_nil_left a.live b.live n) last;
  fixed = λ c last other. ⊎_elim (λ q. p.fixed q (x last) (x other)) (λ q. ap y (o.fixed (or_false a.certain b.certain q c) last other)) (true_or_false b.certain);
  some = λ c last. ⊎_elim (λ q. p.some q (x last)) (λ q. p.keeps (x last) (o.some (or_false a.certain b.certain q c) last)) (true_or_false b.certain);
  keeps = λ last h. p.keeps (x last) (o.keeps last h);
  alive = λ c n. ⊎_elim (λ q. p.alive q (append_nil_right a.live b.live n)) (λ q. o.alive (or_false a.certain b.certain q c) (append_nil_left a.live b.live n)) (true_or_false b.certain);
}

pub both_two : {f g : Integers} {a b : Driving} {x x' y y' : Option ℤ → Option ℤ} → Two f g a x x' → Two f g b y y' → Two f g (both_of a b) (λ last. y (x last)) (λ last. y' (x' last))
both_two {f} {g} {a} {b} {x} {x'} {y} {y'} t u = record {
  here = both_one a b x y t.here u.here;
  there = both_one a b x' y' t.there u.there;
  same = λ agree last.
      let split : Agree f g (joined a.live ++ joined b.live) = subst (Agree f g) (joined-append a.live b.live) agree in
      ap y (t.same (agree-left (joined a.live) (joined b.live) split) last) ∙ u.same (agree-right (joined a.live) (joined b.live) split) (x' last);
}
