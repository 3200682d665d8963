-- Connects and invalidates: two halves, one behind the other.
use Rattle.std.proofs.Common.{◌≡◌, ◌≢◌, ℕ, zero, suc, ◌<◌, ◌≤◌, ◌+◌, ◌-◌, min, nat_le, nat_eq, Bool, true, false, not, List, [], ◌∷◌, ◌++◌, map, length, refl, sym, ap, ap₂, ◌∙◌, subst, arith, ◌==◌, ◌&&◌, ◌||◌, if◌then◌else◌, Some, None, Option, option_map, slice_get, ℤ, pos, true≢false, append-nil, ◌⊎◌, inl, inr, ⊎_elim}
use Rattle.std.specs.Prelude.{Contains}
use Rattle.std.specs.Map.{lookup}
use Rattle.std.specs.List.{list_all, list_any}
use Rattle.std.proofs.lemmas.Bool.Decides.{nat_tests}
use Rattle.std.proofs.lemmas.Grind.{common_steps}
use Rattle.bit_words.specs.declared.value.Kind.TheVariants.{Unsigned}
use Rattle.bit_words.specs.declared.value.Value.{Value}
use Rattle.bit_words.specs.Values.{integer_of}
use Rattle.fir_types.specs.declared.name.Name.{Name}
use Rattle.fir_types.specs.declared.fir_type.FirType.{FirType}
use Rattle.fir_types.specs.declared.leaf.TypeLeaf.{TypeLeaf}
use Rattle.fir_types.specs.declared.leaf.PathStep.{PathStep}
use Rattle.fir_types.specs.Leaves.{leaves}
use Rattle.fir_tree.specs.declared.expr.Expr.{Expr, the_lemmas as form_lemmas}
use Rattle.fir_tree.specs.declared.expr.Form.TheVariants as form
use Rattle.fir_tree.specs.declared.expr.Form.{Form}
use Rattle.fir_tree.specs.declared.expr.Suffix.{Suffix}
use Rattle.fir_tree.specs.declared.expr.Form.TheOpen.{Form-F}
use Rattle.fir_tree.specs.declared.expr.Form.TheViews.{out-Form}
use Rattle.prim_ops.specs.Values.{fitted, lone}
use Rattle.ground_net.specs.declared.circuit.GroundStmt.{GroundStmt}
use Rattle.ground_net.specs.Grounds as net
use Rattle.ground_net.specs.Grounds.{Instant, value, mentions}
use Rattle.ground_net.specs.Statements.{in_turn, effect, is_certain, live}
use Rattle.ground_net.proofs.Layers.{value-Const, mentions-Const}
use Rattle.ground_net.specs.Shapes.{shaped, HasShapes, shape}
use Rattle.ground_net.specs.StatementShapes.{is_shaped}
use Rattle.ground_net.proofs.Shaping.{shape-Const, both_true}
use Rattle.fir_meaning.specs.Components.{Leaf, kind_of_leaf, width_of_leaf}
use Rattle.fir_meaning.specs.Values.{Scene, Spot, beside, fitted_to, follow, suffix_step, spot_of, spot_of_form}
use Rattle.fir_meaning.specs.Values as tree
use Rattle.fir_meaning.specs.Drives.{same_leaf, same_way, is_turned, of_orientation, setting, set_along, set_at, left_in}
use Rattle.fir_meaning.specs.Mentions as tree_reads
use Rattle.fir_meaning.specs.Mentions.{Scope, Region, leaves_at, region_of, region_of_form, follow_all, suffix_onward}
use Rattle.fir_meaning.specs.Certain.{may_be, may_name, surely_names}
use Rattle.fir_meaning.specs.Loops.{driven_from}
use Rattle.fir_meaning.specs.WellTyped.{Known, leaf_shape, named_type, named_in_form, both_match, same_leaves, type_behind, typed_step}
use Rattle.fir_meaning.proofs.Sides.{left_in-append}
use Rattle.ground_exprs.specs.declared.part.Part.{Part}
use Rattle.ground_exprs.specs.Parts.{picked, are_indices}
use Rattle.ground_exprs.specs.Numbers.{Numbering, StandsAt, Reaches, SameLeaves, IsPart, scene_seen}
use Rattle.ground_exprs.proofs.Members.{none_some, some_same, at_place, place_within, item_at, from_map}
use Rattle.ground_exprs.proofs.Narrow.{narrow}
use Rattle.ground_exprs.proofs.Onwards.{same_none, same_append, choice_back}
use Rattle.ground_exprs.proofs.Selections.{zero_fitted}
use Rattle.ground_exprs.specs.declared.source.Source.{Source}
use Rattle.ground_exprs.specs.declared.component.Component.{Component}
use Rattle.ground_exprs.specs.Sources.{Entries, known_of, Knows, Leads, told, source_values, ReadEach, AreSources, IsLowered}
use Rattle.ground_statements.specs.Connects.{IsOneToOne, IsSettable, has_none, SameLives, LeavesAlone, Does, IsConnect, IsInvalidate}
use Rattle.ground_statements.specs.Targets.{is_allowed, set_leaves, IsFit, FitsLeaf, AreFits, IsSide}
use Rattle.ground_statements.specs.Sides.{IsSet, SetsForm, IsHalf}
use Rattle.ground_statements.proofs.Statements.{effects-append, certain-append, shaped-append, live-append, alone_none, alone_append}
use Rattle.ground_statements.proofs.Ways.{way_behind, way_type, Followed, followed, LiesIn, lies_in, Apart, onward, back, one_goes_on, nothing_behind}
use Rattle.ground_statements.proofs.Halves.{head_or, tail, FitsAt, FitAt, FitsAll, leaf_equal, any_from, not_allowed, plus_none, effects_some, effects_none, others_alone, all_shaped, quiet, lives_all, certain_all}

-- What the leaves are set to

abbrev thin : TypeLeaf → Bool
thin leaf = nat_le (width_of_leaf leaf) 128

thin_is : (w : ℕ) → nat_le w 128 ≡ true → min w 128 ≡ w
thin_is w h = let l : w ≤ 128 = grind (arith, common_steps, nat_tests, h) in omega (arith, l)

lone_zero : integer_of (lone []) ≡ pos 0
lone_zero = zero_fitted Unsigned 0

module _ (n : Numbering) (flip : Bool) where
  fit_zero : (leaf : TypeLeaf) (has : Instant → Value) (fit : Source) → thin leaf ≡ true → ((instant : Instant) → HasShapes n.table instant → has instant ≡ lone []) → IsFit flip leaf None fit → FitsAt n flip leaf has [] fit
  fit_zero leaf has fit small nothing f = record {
    turned = f.turned;
    value = λ instant h.
        ap (λ g. integer_of (value g instant)) f.fits ∙ (ap integer_of (value-Const (fitted fit.kind fit.width (pos 0)) instant) ∙ (zero_fitted fit.kind fit.width
        ∙ sym (ap (λ v. integer_of (fitted_to leaf (integer_of v))) (nothing instant h) ∙ (ap (λ i. integer_of (fitted_to leaf i)) lone_zero ∙ zero_fitted (kind_of_leaf leaf) (width_of_leaf leaf)))));
    shape = ap (λ g. shape g n.table) f.fits ∙ (shape-Const (fitted fit.kind fit.width (pos 0)) n.table
        ∙ ap₂ (λ k w. Some (shaped k w)) f.kind (ap (λ w. min w 128) (f.width ∙ thin_is (width_of_leaf leaf) small) ∙ thin_is (width_of_leaf leaf) small));
    reads = subst (SameLeaves n []) (sym (ap mentions f.fits ∙ mentions-Const (fitted fit.kind fit.width (pos 0)))) (same_none n);
  }

  fit_source_of : (leaf : TypeLeaf) (has : Instant → Value) (m : List Leaf) (s fit : Source) → thin leaf ≡ true → ((instant : Instant) → HasShapes n.table instant → value s.expr instant ≡ has instant)
      → shape s.expr n.table ≡ Some (told s) → SameLeaves n m (mentions s.expr) → IsFit flip leaf (Some s) fit → FitsAt n flip leaf has m fit
  fit_source_of leaf has m s fit small is shaped_is reads f = record {
    turned = f.turned;
    value = λ instant h.
        ap integer_of (f.fits.value n.table instant shaped_is h
        ∙ (ap₂ (λ k w. fitted k w (integer_of (value s.expr instant))) f.kind (f.width ∙ thin_is (width_of_leaf leaf) small) ∙ ap (λ v. fitted_to leaf (integer_of v)) (is instant h)));
    shape = f.fits.shape n.table shaped_is ∙ ap₂ (λ k w. Some (shaped k w)) f.kind (f.width ∙ thin_is (width_of_leaf leaf) small);
    reads = subst (SameLeaves n m) (sym f.fits.mentions) reads;
  }

  head_shape : {A : Type 0} {x y : A} {xs ys : List A} → (x ∷ xs) ≡ (y ∷ ys) → x ≡ y
  head_shape e = cc

  tail_shape : {A : Type 0} {x y : A} {xs ys : List A} → (x ∷ xs) ≡ (y ∷ ys) → xs ≡ ys
  tail_shape e = cc

  fits_none : (ls : List TypeLeaf) (has : Instant → List Value) (fits : List (Option Source)) → list_all thin ls ≡ true → ((instant : Instant) → HasShapes n.table instant → has instant ≡ [])
      → AreFits flip ls [] fits → FitsAll n flip ls has [] fits
  fits_none [] has [] small none all = tt
  fits_none [] has (f ∷ fs) small none all = absurd all
  fits_none (l ∷ ls) has [] small none all = absurd all
  fits_none (l ∷ ls) has (f ∷ fs) small none all =
      let parts = both_true (thin l) (list_all thin ls) small in
      (here f all.0 parts.0, fits_none ls (λ instant. tail (has instant)) fs parts.1 (λ instant h. ap tail (none instant h)) all.1)
    where
      here : (o : Option Source) → FitsLeaf flip l None o → thin l ≡ true → FitAt n flip l (λ instant. head_or (lone []) (has instant)) [] o
      here None t s = t
      here (Some fit) f s = fit_zero l (λ instant. head_or (lone []) (has instant)) fit s (λ instant h. ap (head_or (lone [])) (none instant h)) f

  pub fits_all : (ls : List TypeLeaf) (has : Instant → List Value) (ms : List (List Leaf)) (sources : List Source) (fits : List (Option Source)) → list_all thin ls ≡ true
      → ((instant : Instant) → HasShapes n.table instant → source_values sources instant ≡ has instant) → map (λ (s : Source). shape s.expr n.table) sources ≡ map (λ s. Some (told s)) sources → ReadEach n ms sources
      → AreFits flip ls sources fits → FitsAll n flip ls has ms fits
  fits_all [] has ms sources [] small values shapes reads all = tt
  fits_all [] has ms sources (f ∷ fs) small values shapes reads all = absurd all
  fits_all (l ∷ ls) has ms sources [] small values shapes reads all = absurd all
  fits_all (l ∷ ls) has [] [] (f ∷ fs) small values shapes reads all = fits_none (l ∷ ls) has (f ∷ fs) small (λ instant h. sym (values instant h)) all
  fits_all (l ∷ ls) has (m ∷ ms) [] (f ∷ fs) small values shapes reads all = absurd reads
  fits_all (l ∷ ls) has [] (s ∷ ss) (f ∷ fs) small values shapes reads all = absurd reads
  fits_all (l ∷ ls) has (m ∷ ms) (s ∷ ss) (f ∷ fs) small values shapes reads all =
      let parts = both_true (thin l) (list_all thin ls) small in
      (here f all.0 parts.0, fits_all ls (λ instant. tail (has instant)) ms ss fs parts.1 (λ instant h. ap tail (values instant h)) (tail_shape shapes) reads.1 all.1)
    where
      here : (o : Option Source) → FitsLeaf flip l (Some s) o → thin l ≡ true → FitAt n flip l (λ instant. head_or (lone []) (has instant)) m o
      here None t w = t
      here (Some fit) f w = fit_source_of l (λ instant. head_or (lone []) (has instant)) m s fit w (λ instant h. ap (head_or (lone [])) (values instant h)) (head_shape shapes) reads.0 f

-- One half

pub record Half (n : Numbering) (types : Scope) (settable : List Bool) (flip : Bool) (spot : Scene → Option Spot) (region : Option Region) (has : Scene → List Value) (ms : List (List Leaf)) (made : List GroundStmt) : Type 0 where
  pub does : Does n settable types (λ scene leaf last. left_in leaf last (set_at flip (spot scene) (has scene))) (λ leaf. surely_names flip region leaf) (λ leaf. driven_from flip leaf ms region) made
  pub quiet : (leaf : Leaf) (x : ℕ) → IsSettable settable x → n.number leaf ≡ Some x → may_name flip region leaf ≡ false → LeavesAlone made x

no_lives : (n : Numbering) → SameLives n [] []
no_lives n = record { none = refl; leaves = same_none n }

nothing_named : (n : Numbering) (types : Scope) (settable : List Bool) (flip : Bool) (has : Scene → List Value) (ms : List (List Leaf)) → Half n types settable flip (λ scene. None) None has ms []
nothing_named n types settable flip has ms = record {
  does = record {
    sets = λ leaf x may is_x. record { effects = λ instant last h. refl; certain = refl; live = no_lives n };
    others = λ x d. alone_none x;
    shaped = refl;
  };
  quiet = λ leaf x may is_x nope. alone_none x;
}

none_of : {A : Type 0} (p : A → Bool) (xs : List A) (k : ℕ) (x : A) → list_any p xs ≡ false → slice_get xs k ≡ Some x → p x ≡ false
none_of p [] k x h e = absurd (none_some e)
none_of p (y ∷ ys) zero x h e = ap p (sym (some_same e)) ∙ (split (p y) (list_any p ys) h).0
  where
    split : (a b : Bool) → (a || b) ≡ false → (a ≡ false) × (b ≡ false)
    split true b e = absurd (true≢false e)
    split false b e = (refl, e)
none_of p (y ∷ ys) (suc k) x h e = none_of p ys k x ((split (p y) (list_any p ys) h).1) e
  where
    split : (a b : Bool) → (a || b) ≡ false → (a ≡ false) × (b ≡ false)
    split true b e = absurd (true≢false e)
    split false b e = (refl, e)

none_plus : (k : ℕ) → k ≡ 0 + k
none_plus k = omega arith

none_same : (n : Numbering) (flip : Bool) (ls : List TypeLeaf) (has : Instant → List Value) (ms : List (List Leaf)) (fits : List (Option Source)) → FitsAll n flip ls has ms fits → has_none fits ≡ has_none ls
none_same n flip [] has ms [] all = refl
none_same n flip [] has ms (f ∷ fs) all = absurd all
none_same n flip (l ∷ ls) has ms [] all = absurd all
none_same n flip (l ∷ ls) has ms (f ∷ fs) all = refl

half_named : (entries : Entries) (n : Numbering) (types : Scope) → Knows n types entries → IsOneToOne n → (settable : List Bool) (flip : Bool) (name : Name) (suffixes : List Suffix) (sources : List Source) (made : List GroundStmt)
    → (set : IsSet entries settable flip name suffixes sources made) → (steps : ℕ)
    → Followed types name.id set.typ steps (follow_all types name.id (map suffix_onward suffixes))
    → (has : Scene → List Value) (ms : List (List Leaf)) → AreSources n (λ instant. has (scene_seen types n instant)) ms sources
    → Half n types settable flip (λ scene. Some (follow scene name.id (map suffix_step suffixes))) (Some (follow_all types name.id (map suffix_onward suffixes))) has ms made
half_named entries n types knows one settable flip name suffixes sources made set steps f has ms from = record {
  does = record {
    sets = λ leaf x may is_x.
        let allowed : is_allowed (slice_get settable x) ≡ true = ap is_allowed may in
        record {
          effects = λ instant last h. effects_at leaf x allowed is_x instant last h;
          certain = ap (is_certain x) set.side.is ∙ certain_all n one region spot set.typ set.part p steps f.long flip settable x leaf allowed is_x hasS ms set.side.fits all;
          live = subst (λ m. SameLives n (driven_from flip leaf ms (Some region)) (live x m)) (sym set.side.is)
              (subst (λ t. SameLives n (Rattle.std.proofs.Common.filter_map (λ both. if may_be flip region leaf both.0 then Some (region.indices ++ both.1) else None) (beside [] (leaves t) ms))
              (live x (set_leaves settable set.part.picks set.part.first set.side.fits))) (sym p.region_type)
              (subst (λ m. SameLives n (Rattle.std.proofs.Common.filter_map (λ both. if may_be flip region leaf both.0 then Some (region.indices ++ both.1) else None) (beside [] (leaves set.typ) ms))
              (live x (set_leaves settable set.part.picks m set.side.fits))) (plus_none set.part.first)
              (lives_all n one region spot set.typ set.part p steps f.long flip settable x leaf allowed is_x (leaves set.typ) hasS ms set.side.fits 0 all
              (λ k l g. subst (λ m. slice_get (leaves set.typ) m ≡ Some l) (none_plus k) g))));
        };
    others = λ x d. subst (λ m. LeavesAlone m x) (sym set.side.is) (others_alone settable set.part.picks x (not_allowed (slice_get settable x) d) set.side.fits set.part.first);
    shaped = ap (is_shaped n.table) set.side.is ∙ all_shaped n flip settable set.part.picks indices (leaves set.typ) hasS ms set.side.fits set.part.first all
        (λ k l y g c.
        let at = choice_back set.part.picks set.part.first k y c in
        let w = p.each at.0 at.1 in
        ap n.table.leaf (sym at.2) ∙ w.2.shapes k l g);
  };
  quiet = λ leaf x may is_x nope. subst (λ m. LeavesAlone m x) (sym set.side.is)
      (subst (λ m. LeavesAlone (set_leaves settable set.part.picks m set.side.fits) x) (plus_none set.part.first)
      (quiet n one region spot set.typ set.part p steps f.long flip settable x leaf (ap is_allowed may) is_x (leaves set.typ) hasS ms set.side.fits 0 all
      (λ k l g. (subst (λ m. slice_get (leaves set.typ) m ≡ Some l) (none_plus k) g, none_of (may_be flip region leaf) (leaves set.typ) k l (ap (λ t. list_any (may_be flip region leaf) (leaves t)) (sym p.region_type) ∙ nope) g))).0);
}
  where
    region : Region
    region = follow_all types name.id (map suffix_onward suffixes)

    spot : Instant → Spot
    spot instant = follow (scene_seen types n instant) name.id (map suffix_step suffixes)

    hasS : Instant → List Value
    hasS instant = has (scene_seen types n instant)

    p : IsPart n (follow_all types name.id (map suffix_onward suffixes)) (λ instant. follow (scene_seen types n instant) name.id (map suffix_step suffixes)) set.typ set.part
    p = set.leads.leads n types knows

    indices : are_indices n.table set.part.picks ≡ true
    indices = set.leads.indices n types knows

    all : FitsAll n flip (leaves set.typ) hasS ms set.side.fits
    all = fits_all n flip (leaves set.typ) hasS ms sources set.side.fits (narrow set.typ set.leads.narrow) from.values from.shapes from.reads set.side.fit

    effects_at : (leaf : Leaf) (x : ℕ) → is_allowed (slice_get settable x) ≡ true → n.number leaf ≡ Some x → (instant : Instant) (last : Option Value) → HasShapes n.table instant
        → option_map integer_of (in_turn (map (effect instant x) made) last) ≡ left_in leaf (option_map integer_of last) (set_along flip (spot instant) (spot instant).way (hasS instant))
    effects_at leaf x allowed is_x instant last h =
        ap (λ m. option_map integer_of (in_turn (map (effect instant x) m) last)) set.side.is ∙ by_way (spot instant).way (picked instant set.part.picks set.part.first) refl (p.reaches instant h)
      where
        by_way : (o : Option (List PathStep)) (q : Option ℕ) → picked instant set.part.picks set.part.first ≡ q → Reaches n region.component set.typ o q
            → option_map integer_of (in_turn (map (effect instant x) (set_leaves settable set.part.picks set.part.first set.side.fits)) last) ≡ left_in leaf (option_map integer_of last) (set_along flip (spot instant) o (hasS instant))
        by_way (Some way) (Some first) e r =
            effects_some n one flip settable set.part.picks x leaf allowed is_x instant h region.component way (leaves set.typ) hasS ms set.side.fits set.part.first first set.side.numbered all e (λ k l g. r.numbers k l g) last
            ∙ ap₂ (λ c t. left_in leaf (option_map integer_of last) (map (setting c way) (of_orientation flip (beside (lone []) (leaves t) (hasS instant))))) (sym (p.component instant)) (sym (p.spot_type instant))
        by_way None None e r = ap (option_map integer_of) (effects_none n one flip settable set.part.picks x leaf allowed is_x instant set.side.fits set.part.first (λ f. set.side.numbered (sym (none_same n flip (leaves set.typ) hasS ms set.side.fits all) ∙ f)) e last)
        by_way (Some way) None e r = absurd r
        by_way None (Some first) e r = absurd r

-- Both halves

two_lives : (n : Numbering) (told more : List (List Leaf)) (lives others : List (List ℕ)) → SameLives n told lives → SameLives n more others → SameLives n (told ++ more) (lives ++ others)
two_lives n told more lives others a b = record {
  none = none_both lives others ∙ (ap₂ (λ p q. p && q) a.none b.none ∙ sym (none_both told more));
  leaves = subst (λ l. SameLeaves n l (net.joined (lives ++ others))) (sym (Rattle.std.proofs.lemmas.Grind.flat_map-append (λ (l : List Leaf). l) told more))
      (subst (SameLeaves n (tree_reads.joined told ++ tree_reads.joined more)) (sym (Rattle.std.proofs.lemmas.Grind.flat_map-append (λ (l : List ℕ). l) lives others))
      (same_append n (tree_reads.joined told) (tree_reads.joined more) (net.joined lives) (net.joined others) a.leaves b.leaves));
}
  where
    none_both : {A : Type 0} (xs ys : List A) → has_none (xs ++ ys) ≡ (has_none xs && has_none ys)
    none_both [] ys = refl
    none_both (x ∷ xs) ys = refl

two_halves : (n : Numbering) (types : Scope) (settable : List Bool) (spot other : Scene → Option Spot) (region beyond : Option Region) (has shown : Scene → List Value) (ms ns : List (List Leaf)) (first second made : List GroundStmt)
    → Half n types settable false spot region has ms first → Half n types settable true other beyond shown ns second
    → ((leaf : Leaf) (x : ℕ) → n.number leaf ≡ Some x → may_name false region leaf ≡ true → may_name true beyond leaf ≡ true → ⊥) → made ≡ first ++ second
    → Does n settable types (λ scene leaf last. left_in leaf last (set_at false (spot scene) (has scene) ++ set_at true (other scene) (shown scene)))
    (λ leaf. surely_names false region leaf || surely_names true beyond leaf) (λ leaf. driven_from false leaf ms region ++ driven_from true leaf ns beyond) made
two_halves n types settable spot other region beyond has shown ms ns first second made a b never is = subst (Does n settable types _ _ _) (sym is) (record {
  sets = λ leaf x may is_x.
      let one = a.does.sets leaf x may is_x in
      let two = b.does.sets leaf x may is_x in
      record {
        effects = λ instant last h.
            ap (option_map integer_of) (effects-append instant x first second last)
            ∙ (two.effects instant (in_turn (map (effect instant x) first) last) h
            ∙ (ap (λ l. left_in leaf l (set_at true (other (scene_seen types n instant)) (shown (scene_seen types n instant)))) (one.effects instant last h)
            ∙ sym (left_in-append leaf (option_map integer_of last) (set_at false (spot (scene_seen types n instant)) (has (scene_seen types n instant))) (set_at true (other (scene_seen types n instant)) (shown (scene_seen types n instant))))));
        certain = certain-append x first second ∙ ap₂ (λ p q. p || q) one.certain two.certain;
        live = subst (SameLives n (driven_from false leaf ms region ++ driven_from true leaf ns beyond)) (sym (live-append x first second (apart leaf x may is_x (may_name true beyond leaf) refl (may_name false region leaf) refl)))
            (two_lives n (driven_from false leaf ms region) (driven_from true leaf ns beyond) (live x first) (live x second) one.live two.live);
      };
  others = λ x d. alone_append first second x (a.does.others x d) (b.does.others x d);
  shaped = shaped-append n.table first second ∙ ap₂ (λ p q. p && q) a.does.shaped b.does.shaped;
})
  where
    apart : (leaf : Leaf) (x : ℕ) → IsSettable settable x → n.number leaf ≡ Some x → (s : Bool) → may_name true beyond leaf ≡ s → (t : Bool) → may_name false region leaf ≡ t
        → (is_certain x second ≡ false) ⊎ (live x first ≡ [])
    apart leaf x may is_x false e t f = inl (b.quiet leaf x may is_x e).certain
    apart leaf x may is_x true e false f = inr (a.quiet leaf x may is_x f).live
    apart leaf x may is_x true e true f = absurd (never leaf x is_x f e)

-- No leaf is set from both sides

both_places : (xs ys : List TypeLeaf) → same_leaves xs ys ≡ true → length xs ≡ length ys
both_places [] [] h = refl
both_places [] (y ∷ ys) h = absurd (true≢false (sym h))
both_places (x ∷ xs) [] h = absurd (true≢false (sym h))
both_places (x ∷ xs) (y ∷ ys) h =
    ap suc (both_places xs ys (both_true (is_turned x.flip y) (same_leaves xs ys) (both_true (same_way x.path y.path) (is_turned x.flip y && same_leaves xs ys) h).1).1)

alike : (xs ys : List TypeLeaf) (k : ℕ) (a b : TypeLeaf) → same_leaves xs ys ≡ true → slice_get xs k ≡ Some a → slice_get ys k ≡ Some b → (a.path ≡ b.path) × (a.flip ≡ b.flip)
alike [] ys k a b h e f = absurd (none_some e)
alike (x ∷ xs) [] k a b h e f = absurd (none_some f)
alike (x ∷ xs) (y ∷ ys) zero a b h e f =
    let way = both_true (same_way x.path y.path) (is_turned x.flip y && same_leaves xs ys) h in
    let turn = both_true (is_turned x.flip y) (same_leaves xs ys) way.1 in (
      ap (λ (l : TypeLeaf). l.path) (sym (some_same e)) ∙ (ap (λ (l : Leaf). l.way) (leaf_equal (record { component = 0; way = x.path }) (record { component = 0; way = y.path }) way.0) ∙ ap (λ (l : TypeLeaf). l.path) (some_same f)),
      ap (λ (l : TypeLeaf). l.flip) (sym (some_same e)) ∙ (flips x.flip y.flip turn.0 ∙ ap (λ (l : TypeLeaf). l.flip) (some_same f)),
    )
  where
    flips : (a b : Bool) → (if a then b else not b) ≡ true → a ≡ b
    flips true b e = sym e
    flips false true e = absurd (true≢false (sym e))
    flips false false e = refl
alike (x ∷ xs) (y ∷ ys) (suc k) a b h e f =
    alike xs ys k a b (both_true (is_turned x.flip y) (same_leaves xs ys) (both_true (same_way x.path y.path) (is_turned x.flip y && same_leaves xs ys) h).1).1 e f

-- A type is no deeper part of one with as many leaves at the same ways.
no_deeper : (outer inner : FirType) (way : List PathStep) (before k : ℕ) (some : TypeLeaf) → slice_get (leaves inner) k ≡ Some some → length (leaves outer) ≡ length (leaves inner)
    → ((j : ℕ) (a b : TypeLeaf) → slice_get (leaves outer) j ≡ Some a → slice_get (leaves inner) j ≡ Some b → a.path ≡ b.path) → LiesIn outer way inner before → way ≡ []
no_deeper outer inner way before k some e long same lies =
    let inside : k < length (leaves inner) = place_within (leaves inner) k some e in
    let last : ℕ = length (leaves inner) - 1 in
    let end = item_at (leaves inner) (length (leaves inner) - 1) (less k (length (leaves inner)) inside) in
    let out = lies (length (leaves inner) - 1) end.0 end.1 in
    let within : before + (length (leaves inner) - 1) < length (leaves outer) = place_within (leaves outer) (before + (length (leaves inner) - 1)) out.1 out.2 in
    let none : before ≡ 0 = nowhere before (length (leaves inner)) (length (leaves outer)) k inside within long in
    let start = item_at (leaves inner) 0 (some_there k (length (leaves inner)) inside) in
    let first = lies 0 start.0 start.1 in
    let at : slice_get (leaves outer) 0 ≡ Some first.1 = ap (slice_get (leaves outer)) (sym (ap (λ b. b + 0) none)) ∙ first.2 in
    nothing_behind way start.0.path (sym (same 0 first.1 start.0 at start.1) ∙ first.3)
  where
    less : (k n : ℕ) → k < n → n - 1 < n
    less k n h = omega (arith, h)

    some_there : (k n : ℕ) → k < n → 0 < n
    some_there k n h = omega (arith, h)

    nowhere : (b n m k : ℕ) → k < n → b + (n - 1) < m → m ≡ n → b ≡ 0
    nowhere b n m k h w e = omega (arith, h, w, e)

-- the part and the way of a leaf that a side names
record Named (region : Region) (typ : FirType) (flip : Bool) (z : Leaf) : Type 0 where
  way : List PathStep
  there : Contains region.ways way
  place : ℕ
  leaf : TypeLeaf
  at : slice_get (leaves typ) place ≡ Some leaf
  turned : is_turned flip leaf ≡ true
  is : record { component = region.component; way = way ++ leaf.path } ≡ z

named_there : (region : Region) (typ : FirType) (flip : Bool) (z : Leaf) → region.typ ≡ typ → may_name flip (Some region) z ≡ true → Named region typ flip z
named_there region typ flip z t h =
    let found = any_from (may_be flip region z) (leaves typ) (ap (λ u. list_any (may_be flip region z) (leaves u)) (sym t) ∙ h) in
    let parts = both_true (is_turned flip found.0) (list_any (λ at. same_leaf at z) (leaves_at region found.0.path)) found.2 in
    let leaf = any_from (λ at. same_leaf at z) (leaves_at region found.0.path) parts.1 in
    let way = from_map (λ (w : List PathStep). record { component = region.component; way = w ++ found.0.path }) region.ways leaf.0 leaf.1 in
    let at = at_place (leaves typ) found.0 found.1 in
    record {
      way = way.0;
      there = way.1;
      place = at.0;
      leaf = found.0;
      at = at.1;
      turned = parts.0;
      is = way.2 ∙ leaf_equal leaf.0 z leaf.2;
    }

module _ (n : Numbering) (types : Scope) (c d : ℕ) (typ other : FirType) (steps more : ℕ) (region beyond : Region) (f : Followed types c typ steps region) (g : Followed types d other more beyond)
    (alike_all : same_leaves (leaves typ) (leaves other) ≡ true)
    (stands : (way : List PathStep) → Contains region.ways way → (x : ℕ) × StandsAt n c typ way x) where
  same_end : (z : Leaf) (a : Named region typ false z) (b : Named beyond other true z) → a.way ≡ b.way → c ≡ d → ⊥
  same_end z a b w e =
      let partner = item_at (leaves typ) b.place (subst (λ k. b.place < k) (sym (both_places (leaves typ) (leaves other) alike_all)) (place_within (leaves other) b.place b.leaf b.at)) in
      let like = alike (leaves typ) (leaves other) b.place partner.0 b.leaf alike_all partner.1 b.at in
      let first = stands a.way a.there in
      let paths : a.way ++ a.leaf.path ≡ a.way ++ partner.0.path = ap (λ (l : Leaf). l.way) (a.is ∙ sym b.is) ∙ (ap (λ v. v ++ b.leaf.path) (sym w) ∙ ap (λ p. a.way ++ p) (sym like.0)) in
      let numbers : first.0 + a.place ≡ first.0 + b.place =
      some_same (sym (first.1.numbers a.place a.leaf a.at) ∙ (ap (λ p. n.number (record { component = c; way = p })) paths ∙ first.1.numbers b.place partner.0 partner.1)) in
      let place : a.place ≡ b.place = level first.0 a.place b.place numbers in
      let same : a.leaf ≡ partner.0 = some_same (sym a.at ∙ (ap (slice_get (leaves typ)) place ∙ partner.1)) in
      clash a.leaf.flip b.leaf.flip a.turned b.turned (ap (λ (l : TypeLeaf). l.flip) same ∙ like.1)
    where
      level : (x a b : ℕ) → x + a ≡ x + b → a ≡ b
      level x a b e = omega (arith, e)

      clash : (p q : Bool) → not p ≡ true → q ≡ true → p ≡ q → ⊥
      clash true q h k e = true≢false (sym h)
      clash false true h k e = true≢false (sym e)
      clash false false h k e = true≢false (sym k)

  goes_deeper : (way more_way : List PathStep) (outer inner : FirType) (whole : FirType) → way_type way whole ≡ Some outer → way_type (way ++ more_way) whole ≡ Some inner → way_type more_way outer ≡ Some inner
  goes_deeper way more_way outer inner whole o i = sym (ap (Rattle.std.proofs.Common.option_and_then (way_type more_way)) o) ∙ (sym (way_behind way more_way whole) ∙ i)

  pub never_both : (z : Leaf) → may_name false (Some region) z ≡ true → may_name true (Some beyond) z ≡ true → ⊥
  never_both z h k =
      let a = named_there region typ false z f.typ_is h in
      let b = named_there beyond other true z g.typ_is k in
      let same : c ≡ d = sym f.component ∙ (ap (λ (l : Leaf). l.component) (a.is ∙ sym b.is) ∙ g.component) in
      let ways : a.way ++ a.leaf.path ≡ b.way ++ b.leaf.path = ap (λ (l : Leaf). l.way) (a.is ∙ sym b.is) in
      by a b same (one_goes_on a.way b.way a.leaf.path b.leaf.path ways)
    where
      by : (a : Named region typ false z) (b : Named beyond other true z) → c ≡ d → Apart a.way b.way → ⊥
      by a b same (onward way e) =
          let deep : way_type way typ ≡ Some other =
          goes_deeper a.way way typ other (types c) (f.leads a.way a.there) (ap₂ (λ w t. way_type w (types t)) (sym e) same ∙ g.leads b.way b.there) in
          let lies = lies_in way typ other deep in
          let none : way ≡ [] = no_deeper typ other way lies.0 b.place b.leaf b.at (both_places (leaves typ) (leaves other) alike_all) (λ j x y p q. (alike (leaves typ) (leaves other) j x y alike_all p q).0) lies.1 in
          same_end z a b (sym (e ∙ (ap (λ w. a.way ++ w) none ∙ append-nil a.way))) same
      by a b same (back way e) =
          let deep : way_type way other ≡ Some typ =
          goes_deeper b.way way other typ (types d) (g.leads b.way b.there) (ap₂ (λ w t. way_type w (types t)) (sym e) (sym same) ∙ f.leads a.way a.there) in
          let lies = lies_in way other typ deep in
          let none : way ≡ [] = no_deeper other typ way lies.0 a.place a.leaf a.at (sym (both_places (leaves typ) (leaves other) alike_all)) (λ j x y p q. sym (alike (leaves typ) (leaves other) j y x alike_all q p).0) lies.1 in
          same_end z a b (e ∙ (ap (λ w. b.way ++ w) none ∙ append-nil b.way)) same

-- Connects

known_there : (entries : Entries) (n : Numbering) (types : Scope) → Knows n types entries → (name : ℕ) (suffixes : List Suffix) (typ : FirType) → type_behind (known_of entries) (map typed_step suffixes) (known_of entries name) ≡ Some typ
    → Followed types name typ (0 + length suffixes) (follow_all types name (map suffix_onward suffixes))
known_there entries n types knows name suffixes typ e = by (lookup (nat_eq name) entries) refl
  where
    behind_none : (known : Known) (steps : List Rattle.fir_meaning.specs.WellTyped.Onward) → type_behind known steps None ≡ None
    behind_none known [] = refl
    behind_none known (s ∷ ss) = behind_none known ss

    by : (o : Option Component) → lookup (nat_eq name) entries ≡ o → Followed types name typ (0 + length suffixes) (follow_all types name (map suffix_onward suffixes))
    by (Some c) h = followed (known_of entries) types name suffixes c.typ typ (ap (option_map (λ (c : Component). c.typ)) h) (knows.typed name c h) e
    by None h =
        absurd (none_some (sym (behind_none (known_of entries) (map typed_step suffixes))
        ∙ (ap (λ o. type_behind (known_of entries) (map typed_step suffixes) (option_map (λ (c : Component). c.typ) o)) (sym h) ∙ e)))

module _ (entries : Entries) (settable : List Bool) (n : Numbering) (types : Scope) (knows : Knows n types entries) (one : IsOneToOne n) (sources others : List Source) (has shown : Scene → List Value) (ms ns : List (List Leaf))
    (from : AreSources n (λ instant. has (scene_seen types n instant)) ms sources) (beside_it : AreSources n (λ instant. shown (scene_seen types n instant)) ns others) (first second made : List GroundStmt) (is : made ≡ first ++ second) where
  half_form : (flip : Bool) (y : Form-F Form Suffix Expr) (sources : List Source) (has : Scene → List Value) (ms : List (List Leaf)) (made : List GroundStmt) → AreSources n (λ instant. has (scene_seen types n instant)) ms sources
      → SetsForm entries settable flip y sources made → Half n types settable flip (λ scene. spot_of_form scene y) (region_of_form types y) has ms made
  half_form flip (Form-F.Ref name suffixes) sources has ms made from set =
      half_named entries n types knows one settable flip name suffixes sources made set (0 + length suffixes) (known_there entries n types knows name.id suffixes set.typ set.leads.typed) has ms from
  half_form flip (Form-F.Literal kind width number) sources has ms made from e = subst (Half n types settable flip (λ scene. None) None has ms) (sym e) (nothing_named n types settable flip has ms)
  half_form flip (Form-F.Prim prim es params) sources has ms made from e = subst (Half n types settable flip (λ scene. None) None has ms) (sym e) (nothing_named n types settable flip has ms)
  half_form flip (Form-F.Mux es) sources has ms made from e = subst (Half n types settable flip (λ scene. None) None has ms) (sym e) (nothing_named n types settable flip has ms)

  never_form : (y w : Form-F Form Suffix Expr) → SetsForm entries settable false y sources first → SetsForm entries settable true w others second
      → both_match (named_in_form (known_of entries) y) (named_in_form (known_of entries) w) ≡ true
      → (leaf : Leaf) (x : ℕ) → n.number leaf ≡ Some x → may_name false (region_of_form types y) leaf ≡ true → may_name true (region_of_form types w) leaf ≡ true → ⊥
  never_form (Form-F.Ref name suffixes) (Form-F.Ref other steps) set also match leaf x is_x h k =
      let p = set.leads.leads n types knows in
      let f = known_there entries n types knows name.id suffixes set.typ set.leads.typed in
      let g = known_there entries n types knows other.id steps also.typ also.leads.typed in
      never_both n types name.id other.id set.typ also.typ (0 + length suffixes) (0 + length steps) (follow_all types name.id (map suffix_onward suffixes)) (follow_all types other.id (map suffix_onward steps)) f g
      (ap₂ both_match (sym set.leads.typed) (sym also.leads.typed) ∙ match)
      (λ way there. let at = p.all way there in (at.0, subst (λ c. StandsAt n c set.typ way at.0) f.component at.2)) leaf h k
  never_form (Form-F.Ref name suffixes) (Form-F.Literal kind width number) set also match leaf x is_x h k = true≢false (sym k)
  never_form (Form-F.Ref name suffixes) (Form-F.Prim prim es params) set also match leaf x is_x h k = true≢false (sym k)
  never_form (Form-F.Ref name suffixes) (Form-F.Mux es) set also match leaf x is_x h k = true≢false (sym k)
  never_form (Form-F.Literal kind width number) w set also match leaf x is_x h k = true≢false (sym h)
  never_form (Form-F.Prim prim es params) w set also match leaf x is_x h k = true≢false (sym h)
  never_form (Form-F.Mux es) w set also match leaf x is_x h k = true≢false (sym h)

  pub both_forms : (y w : Form-F Form Suffix Expr) → SetsForm entries settable false y sources first → SetsForm entries settable true w others second
      → both_match (named_in_form (known_of entries) y) (named_in_form (known_of entries) w) ≡ true
      → Does n settable types (λ scene leaf last. left_in leaf last (set_at false (spot_of_form scene y) (has scene) ++ set_at true (spot_of_form scene w) (shown scene)))
      (λ leaf. surely_names false (region_of_form types y) leaf || surely_names true (region_of_form types w) leaf)
      (λ leaf. driven_from false leaf ms (region_of_form types y) ++ driven_from true leaf ns (region_of_form types w)) made
  both_forms y w set also match =
      two_halves n types settable (λ scene. spot_of_form scene y) (λ scene. spot_of_form scene w) (region_of_form types y) (region_of_form types w) has shown ms ns first second made
      (half_form false y sources has ms first from set) (half_form true w others shown ns second beside_it also) (never_form y w set also match) is

pub half_is : (entries : Entries) (settable : List Bool) (flip : Bool) (target : Expr) (name : Name) (suffixes slice : List Suffix) (typ : FirType) (part : Part) (sources : List Source) (made : List GroundStmt)
    → target.form ≡ form.Ref name suffixes → slice ≡ suffixes → Leads entries name.id slice typ part → IsSide settable flip typ part sources made → IsHalf entries settable flip target sources made
half_is entries settable flip target name suffixes slice typ part sources made is same leads side =
    let out : out-Form target.form ≡ Form-F.Ref name suffixes = grind (arith, common_steps, form_lemmas) in
    subst (λ y. SetsForm entries settable flip y sources made) (sym out) (record {
      typ = typ;
      part = part;
      leads = subst (λ ss. Leads entries name.id ss typ part) same leads;
      side = side;
    })

pub connect_is : (entries : Entries) (settable : List Bool) (left right : Expr) (from_left from_right : List Source) (first second made : List GroundStmt) → IsLowered entries left from_left → IsLowered entries right from_right
    → IsHalf entries settable false left from_right first → IsHalf entries settable true right from_left second
    → both_match (named_type (known_of entries) left) (named_type (known_of entries) right) ≡ true → made ≡ first ++ second → IsConnect entries settable left right made
connect_is entries settable left right from_left from_right first second made low high a b match is = λ n types knows one.
    both_forms entries settable n types knows one from_right from_left (tree.value right) (tree.value left) (tree_reads.mentions right types) (tree_reads.mentions left types) (high.are n types knows) (low.are n types knows)
    first second made is (out-Form left.form) (out-Form right.form) a b match

no_sources : (n : Numbering) → AreSources n (λ instant. []) [] []
no_sources n = record { values = λ instant h. refl; shapes = refl; reads = tt }

match_itself : (o : Option FirType) → both_match o o ≡ true
match_itself None = refl
match_itself (Some typ) = each (leaves typ)
  where
    turns : (b : Bool) → (if b then b else not b) ≡ true
    turns true = refl
    turns false = refl

    each : (ls : List TypeLeaf) → same_leaves ls ls ≡ true
    each [] = refl
    each (l ∷ ls) = ap₂ (λ a b. a && b) (Rattle.ground_statements.proofs.Halves.way_itself l.path) (ap₂ (λ a b. a && b) (turns l.flip) (each ls))

pub invalidate_is : (entries : Entries) (settable : List Bool) (target : Expr) (none also : List Source) (first second made : List GroundStmt) → none ≡ [] → also ≡ []
    → IsHalf entries settable false target none first → IsHalf entries settable true target also second → made ≡ first ++ second → IsInvalidate entries settable target made
invalidate_is entries settable target none also first second made e f a b is = λ n types knows one.
    both_forms entries settable n types knows one [] [] (λ scene. []) (λ scene. []) [] [] (no_sources n) (no_sources n) first second made is (out-Form target.form) (out-Form target.form)
    (subst (λ s. IsHalf entries settable false target s first) e a) (subst (λ s. IsHalf entries settable true target s second) f b) (match_itself (named_type (known_of entries) target))
