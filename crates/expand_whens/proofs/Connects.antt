-- Walks through a connect.
use Rattle.std.proofs.Common.{◌≡◌, ◌≢◌, ℕ, Bool, true, false, List, [], ◌∷◌, ◌++◌, map, length, refl, sym, ap, ◌∙◌, subst, arith, ◌==◌, ◌&&◌, ◌||◌, not, if◌then◌else◌, Some, Option, append-nil, append_assoc, true≢false, ⊎_elim}
use Rattle.std.specs.Global.{Vec}
use Rattle.std.proofs.lemmas.Bool.Decides.{nat_tests}
use Rattle.std.proofs.lemmas.Grind.{flat_map-append}
use Rattle.bit_words.specs.declared.value.Value.{Value}
use Rattle.ground_net.specs.declared.ground.Ground.{Ground}
use Rattle.ground_net.specs.declared.circuit.GroundStmt.TheVariants.{Connect}
use Rattle.ground_net.specs.Grounds.{Instant, value, mentions, joined}
use Rattle.ground_net.specs.Statements.{Effect, effect, driving, live, crossing, all_hold}
use Rattle.expand_whens.specs.declared.guard.Asked.{Asked}
use Rattle.expand_whens.specs.declared.guard.Way.{Way}
use Rattle.expand_whens.specs.Ways.{Same, IsGuard, guard_holds, crossed, crossed_mentions, outcome, way_mentions, ways_mentions}
use Rattle.expand_whens.specs.Walking.{Made, BlockWalks, block_effect, has, is_alone, is_covered, is_marked, ways_at}
use Rattle.expand_whens.proofs.Members.{same, same_of, same_through, same_append}
use Rattle.expand_whens.proofs.Covers.{has-append, has-one}
use Rattle.expand_whens.proofs.Layers.{effect-Connect, live-Connect, certain-Connect, uncertain-Connect}
use Rattle.expand_whens.proofs.Making.{made_none}
use Rattle.expand_whens.proofs.Blocks.{true_or_false}

pub same_number : (m n : ℕ) → (m == n) ≡ true → m ≡ n
same_number m n h = grind (arith, nat_tests)

pub same_itself : (n : ℕ) → (n == n) ≡ true
same_itself n = grind (arith, nat_tests)

pub other_number : (m n : ℕ) → (m == n) ≡ false → n ≢ m
other_number m n h = grind (arith, nat_tests)

pub outcome-push : (instant : Instant) (ways : List Way) (way : Way) (last : Option Value)
    → outcome instant (ways ++ way ∷ []) last ≡ outcome instant ways (if guard_holds instant way.guard then Some (value way.source instant) else last)
outcome-push instant [] way last = refl
outcome-push instant (w ∷ ws) way last = ap (λ o. if guard_holds instant w.guard then Some (value w.source instant) else o) (outcome-push instant ws way last)

pub made_told : (leaf : ℕ) (asked : List Asked) (does other : Instant → Effect) (lives others : List (List ℕ)) (old new : List Way)
    → ((instant : Instant) (last : Option Value) → does instant last ≡ other instant last) → lives ≡ others → Made leaf asked does lives old new → Made leaf asked other others old new
made_told leaf asked does other lives others old new d l m = record {
  leaves = λ instant last. m.leaves instant last ∙ ap (λ x. outcome instant old (if crossed instant leaf asked then x else last)) (d instant last);
  reads = subst (λ ls. Same (ways_mentions new) (ways_mentions old ++ joined (crossing (crossed_mentions leaf asked) ls))) l m.reads;
}

-- a way more
made_way : (leaf : ℕ) (asked : List Asked) (conditions : List Ground) (source : Ground) (old : List Way) (way : Way)
    → IsGuard (λ instant. crossed instant leaf asked && all_hold instant conditions) (crossed_mentions leaf asked ++ joined (map mentions conditions)) way.guard → way.source ≡ source
    → Made leaf asked (λ instant last. if all_hold instant conditions then Some (value source instant) else last) ((joined (map mentions conditions) ++ mentions source) ∷ []) old (old ++ way ∷ [])
made_way leaf asked conditions source old way g s = record {
  leaves = λ instant last. outcome-push instant old way last ∙ ap (outcome instant old)
      (ap (λ b. if b then Some (value way.source instant) else last) (g.holds instant)
      ∙ (nested (crossed instant leaf asked) (all_hold instant conditions) (Some (value way.source instant)) last
      ∙ ap (λ x. if crossed instant leaf asked then (if all_hold instant conditions then Some (value x instant) else last) else last) s));
  reads = same_through (same_of (flat_map-append way_mentions old (way ∷ [])))
      (same_append (same (ways_mentions old)) (same_through (same_of (append-nil (way_mentions way)))
      (same_through (same_append g.mentions (same_of (ap mentions s))) (same_of (regrouped (crossed_mentions leaf asked) (joined (map mentions conditions)) (mentions source))))));
}
  where
    nested : (a b : Bool) (x y : Option Value) → (if a && b then x else y) ≡ if a then (if b then x else y) else y
    nested true b x y = refl
    nested false b x y = refl

    regrouped : (a b c : List ℕ) → (a ++ b) ++ c ≡ (a ++ (b ++ c)) ++ []
    regrouped a b c = append_assoc a b c ∙ sym (append-nil (a ++ (b ++ c)))

surely : (x target : ℕ) (conditions : List Ground) (source : Ground) → ((driving x (Connect target conditions source)).certain || false) ≡ ((target == x) && is_alone conditions)
surely x target [] source = ap (λ b. b || false) (certain-Connect x target source) ∙ or_and (target == x)
  where
    or_and : (b : Bool) → (b || false) ≡ (b && true)
    or_and true = refl
    or_and false = refl
surely x target (c ∷ cs) source = ap (λ b. b || false) (uncertain-Connect x target c cs source) ∙ none (target == x)
  where
    none : (b : Bool) → (false || false) ≡ (b && false)
    none true = refl
    none false = refl

-- a connect of another leaf does nothing
other_effect : (instant : Instant) (leaf target : ℕ) (conditions : List Ground) (source : Ground) → (target == leaf) ≡ false → (last : Option Value)
    → last ≡ effect instant leaf (Connect target conditions source) last
other_effect instant leaf target conditions source n last =
    sym (effect-Connect instant leaf target conditions source last ∙ ap (λ b. if b && all_hold instant conditions then Some (value source instant) else last) n)

other_live : (leaf target : ℕ) (conditions : List Ground) (source : Ground) → (target == leaf) ≡ false → [] ≡ live leaf (Connect target conditions source ∷ [])
other_live leaf target conditions source n =
    sym (append-nil _ ∙ (live-Connect leaf target conditions source ∙ ap (λ b. if b then (joined (map mentions conditions) ++ mentions source) ∷ [] else []) n))

made_other : (leaf target : ℕ) (asked : List Asked) (conditions : List Ground) (source : Ground) (ways : List Way) → (target == leaf) ≡ false
    → Made leaf asked (λ instant. block_effect instant leaf (Connect target conditions source ∷ [])) (live leaf (Connect target conditions source ∷ [])) ways ways
made_other leaf target asked conditions source ways n = made_told leaf asked _ _ _ _ ways ways
    (λ instant last. other_effect instant leaf target conditions source n last) (other_live leaf target conditions source n) (made_none leaf asked ways)

made_target : (target : ℕ) (asked : List Asked) (conditions : List Ground) (source : Ground) (old : List Way) (way : Way)
    → IsGuard (λ instant. crossed instant target asked && all_hold instant conditions) (crossed_mentions target asked ++ joined (map mentions conditions)) way.guard → way.source ≡ source
    → Made target asked (λ instant. block_effect instant target (Connect target conditions source ∷ [])) (live target (Connect target conditions source ∷ [])) old (old ++ way ∷ [])
made_target target asked conditions source old way g s = made_told target asked _ _ _ _ old (old ++ way ∷ [])
    (λ instant last. sym (effect-Connect instant target target conditions source last ∙ ap (λ b. if b && all_hold instant conditions then Some (value source instant) else last) (same_itself target)))
    (sym (append-nil _ ∙ (live-Connect target target conditions source ∙ ap (λ b. if b then (joined (map mentions conditions) ++ mentions source) ∷ [] else []) (same_itself target))))
    (made_way target asked conditions source old way g s)

apart : (covered : List Bool) (leaf target : ℕ) → is_covered covered leaf ≡ false → is_covered covered target ≡ true → (target == leaf) ≡ false
apart covered leaf target u c = ⊎_elim
    (λ y. absurd (true≢false (sym c ∙ (ap (is_covered covered) (same_number target leaf y) ∙ u))))
    (λ n. n) (true_or_false (target == leaf))

-- a leaf that is covered already, or none of the module's
pub connect_skips : (asked : List Asked) (target : ℕ) (conditions : List Ground) (source : Ground) (covered : List Bool) (ways : List (Vec Way)) (newly : List ℕ)
    → is_covered covered target ≡ true → newly ≡ [] → BlockWalks asked (Connect target conditions source ∷ []) covered ways ways newly
connect_skips asked target conditions source covered ways newly c e = record {
  counted = refl;
  made = λ leaf u. made_other leaf target asked conditions source (ways_at ways leaf) (apart covered leaf target u c);
  stays = λ leaf u. refl;
  listed = λ leaf. ap (λ xs. has xs leaf) e ∙ sym (ap (λ b. not (is_covered covered leaf) && b) (surely leaf target conditions source) ∙ nothing leaf (target == leaf) refl);
  settles = λ leaf h. absurd (true≢false (sym h ∙ ap (λ xs. has xs leaf) e));
}
  where
    nothing : (leaf : ℕ) (b : Bool) → (target == leaf) ≡ b → (not (is_covered covered leaf) && (b && is_alone conditions)) ≡ false
    nothing leaf true y = ap (λ x. not x && is_alone conditions) (ap (is_covered covered) (sym (same_number target leaf y)) ∙ c)
    nothing leaf false n = and_false (not (is_covered covered leaf))
      where
        and_false : (b : Bool) → (b && false) ≡ false
        and_false true = refl
        and_false false = refl

-- a way is added
pub connect_makes : (asked : List Asked) (target : ℕ) (conditions : List Ground) (source : Ground) (covered : List Bool) (old new : List (Vec Way)) (newly : List ℕ) (way : Way)
    → is_covered covered target ≡ false
    → IsGuard (λ instant. crossed instant target asked && all_hold instant conditions) (crossed_mentions target asked ++ joined (map mentions conditions)) way.guard → way.source ≡ source
    → length new ≡ length old → ways_at new target ≡ ways_at old target ++ way ∷ [] → ((x : ℕ) → x ≢ target → ways_at new x ≡ ways_at old x)
    → ((x : ℕ) → has newly x ≡ ((target == x) && is_alone conditions))
    → BlockWalks asked (Connect target conditions source ∷ []) covered old new newly
connect_makes asked target conditions source covered old new newly way u g s n added others l = record {
  counted = n;
  made = λ leaf v. ⊎_elim
      (λ y. subst (λ x. Made x asked (λ instant. block_effect instant x (Connect target conditions source ∷ [])) (live x (Connect target conditions source ∷ [])) (ways_at old x) (ways_at new x)) (same_number target leaf y)
      (subst (λ ws. Made target asked (λ instant. block_effect instant target (Connect target conditions source ∷ [])) (live target (Connect target conditions source ∷ [])) (ways_at old target) ws) (sym added)
      (made_target target asked conditions source (ways_at old target) way g s)))
      (λ d. subst (λ ws. Made leaf asked (λ instant. block_effect instant leaf (Connect target conditions source ∷ [])) (live leaf (Connect target conditions source ∷ [])) (ways_at old leaf) ws)
      (sym (others leaf (other_number target leaf d))) (made_other leaf target asked conditions source (ways_at old leaf) d))
      (true_or_false (target == leaf));
  stays = λ leaf c. others leaf (λ e. true≢false (sym c ∙ (ap (is_covered covered) e ∙ u)));
  listed = λ leaf. l leaf ∙ (open_ones leaf (target == leaf) refl ∙ sym (ap (λ b. not (is_covered covered leaf) && b) (surely leaf target conditions source)));
  settles = λ leaf h instant last other.
      let both = sym (l leaf) ∙ h in
      effect-Connect instant leaf target conditions source last ∙ (alone_same conditions (target == leaf) both instant last other ∙ sym (effect-Connect instant leaf target conditions source other));
}
  where
    open_ones : (leaf : ℕ) (b : Bool) → (target == leaf) ≡ b → (b && is_alone conditions) ≡ (not (is_covered covered leaf) && (b && is_alone conditions))
    open_ones leaf true y = sym (ap (λ x. not x && is_alone conditions) (ap (is_covered covered) (sym (same_number target leaf y)) ∙ u))
    open_ones leaf false d = sym (and_false (not (is_covered covered leaf)))
      where
        and_false : (b : Bool) → (b && false) ≡ false
        and_false true = refl
        and_false false = refl

    alone_same : (cs : List Ground) (b : Bool) → (b && is_alone cs) ≡ true → (instant : Instant) (last other : Option Value)
        → (if b && all_hold instant cs then Some (value source instant) else last) ≡ if b && all_hold instant cs then Some (value source instant) else other
    alone_same [] true h instant last other = refl
    alone_same [] false h instant last other = absurd (true≢false (sym h))
    alone_same (c ∷ cs) true h instant last other = absurd (true≢false (sym h))
    alone_same (c ∷ cs) false h instant last other = absurd (true≢false (sym h))

-- a leaf that is marked is pushed
pub pushed_yes : (old : List ℕ) (leaf : ℕ) (covered : List Bool) → is_marked covered leaf ≡ true → (x : ℕ) → has (old ++ leaf ∷ []) x ≡ (has old x || ((leaf == x) && is_marked covered x))
pushed_yes old leaf covered m x = has-append old (leaf ∷ []) x ∙ ap (λ b. has old x || b) (has-one leaf x ∙ both (leaf == x) refl)
  where
    both : (b : Bool) → (leaf == x) ≡ b → b ≡ (b && is_marked covered x)
    both true y = sym (ap (is_marked covered) (sym (same_number leaf x y)) ∙ m)
    both false n = refl

pub pushed_no : (old : List ℕ) (leaf : ℕ) (covered : List Bool) → is_marked covered leaf ≡ false → (x : ℕ) → has old x ≡ (has old x || ((leaf == x) && is_marked covered x))
pushed_no old leaf covered m x = either (has old x) ∙ ap (λ b. has old x || b) (neither (leaf == x) refl)
  where
    either : (b : Bool) → b ≡ (b || false)
    either true = refl
    either false = refl

    neither : (b : Bool) → (leaf == x) ≡ b → false ≡ (b && is_marked covered x)
    neither true y = sym (ap (is_marked covered) (sym (same_number leaf x y)) ∙ m)
    neither false n = refl
