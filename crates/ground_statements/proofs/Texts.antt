-- What the statements of a text mean for a leaf, one after another and in a `when`.
use Rattle.std.proofs.Common.{◌≡◌, ℕ, ◌+◌, ◌&&◌, ◌||◌, Bool, true, false, List, [], ◌∷◌, ◌++◌, map, length, Option, ℤ, refl, sym, ap, ap₂, ◌∙◌, arith, if◌then◌else◌, append-nil, append_assoc, nat_lt}
use Rattle.std.specs.List.{list_any, list_all}
use Rattle.std.proofs.lemmas.List.{length-append}
use Rattle.fir_tree.specs.declared.stmt.Stmt.{Stmt}
use Rattle.fir_tree.specs.declared.stmt.Stmt.TheVariants as stmt
use Rattle.fir_tree.specs.declared.stmt.Arm.{Arm}
use Rattle.fir_meaning.specs.Components.{TypedModule, Leaf, type_in}
use Rattle.fir_meaning.specs.Values as tree
use Rattle.fir_meaning.specs.Values.{Scene}
use Rattle.fir_meaning.specs.Drives as tree_drives
use Rattle.fir_meaning.specs.Mentions as tree_reads
use Rattle.fir_meaning.specs.Mentions.{Scope}
use Rattle.fir_meaning.specs.Loops as tree_loops
use Rattle.circuit_laws.specs.Open as open_text
use Rattle.circuit_laws.specs.Open.{Opened, OpenedArm, opened, effects, arm_effects, left_by}
use Rattle.circuit_laws.specs.OpenReads as open_reads
use Rattle.circuit_laws.specs.OpenReads.{OpenDriving, OpenDrivingArm, open_driving, drivings, arm_drivings, live_by}
use Rattle.circuit_laws.proofs.Opening.{opens}
use Rattle.circuit_laws.proofs.Reading.{reads_of}
use Rattle.ground_net.specs.declared.circuit.GroundStmt.{GroundStmt}
use Rattle.ground_net.specs.Grounds.{Instant}
use Rattle.net_of_circuit.specs.Numbers.{scene_at}
use Rattle.ground_exprs.specs.Numbers.{Numbering}
use Rattle.ground_statements.specs.Declares.{labels, body_labels}
use Rattle.ground_statements.specs.Arms.{arms_labels}
use Rattle.ground_statements.specs.Bodies.{Meant, IsMeant, meant_by}
use Rattle.ground_statements.proofs.Labels.{labelled}
use Rattle.ground_statements.proofs.Layers.{opened_arm, the_arm, open-When, open_arm-is, reads-When, reads_arm-is}
use Rattle.ground_statements.proofs.Lists.{plus_none}
use Rattle.ground_statements.proofs.Lives.{tree_live_append}
use Rattle.ground_statements.proofs.Meanings.{told, seq, MeantArm, when_meant, effects_of, drivings_of}

pub labels_append : (xs ys : List Stmt) → body_labels (xs ++ ys) ≡ body_labels xs ++ body_labels ys
labels_append [] ys = refl
labels_append (x ∷ xs) ys = ap (λ l. labels x ++ l) (labels_append xs ys) ∙ sym (append_assoc (labels x) (body_labels xs) (body_labels ys))

pub counts_append : (xs ys : List Stmt) → length (body_labels (xs ++ ys)) ≡ length (body_labels xs) + length (body_labels ys)
counts_append xs ys = ap length (labels_append xs ys) ∙ length-append (body_labels xs) (body_labels ys)

-- What is left

module _ (scene : Scene) (leaf : Leaf) (k : ℕ) where
  count_is : (s : Stmt) → (opened scene leaf k s).count ≡ length (labels s)
  count_is s = (opens scene leaf k s).counts ∙ (labelled s).counts

  counted_is : (ss : List Stmt) → open_text.counted (map (opened scene leaf k) ss) ≡ length (body_labels ss)
  counted_is [] = refl
  counted_is (s ∷ ss) = ap₂ (λ a b. a + b) (count_is s) (counted_is ss) ∙ sym (length-append (labels s) (body_labels ss))

  left_append : (n : ℕ) (xs ys : List Stmt) (last : Option ℤ) → left_by scene leaf k n (xs ++ ys) last ≡ left_by scene leaf k (n + length (body_labels xs)) ys (left_by scene leaf k n xs last)
  left_append n [] ys last = ap (λ i. left_by scene leaf k i ys last) (sym (plus_none n))
  left_append n (x ∷ xs) ys last =
      let c = count_is x in
      let l : length (body_labels (x ∷ xs)) ≡ length (labels x) + length (body_labels xs) = length-append (labels x) (body_labels xs) in
      let i : n + (opened scene leaf k x).count + length (body_labels xs) ≡ n + length (body_labels (x ∷ xs)) = omega (arith, c, l) in
      left_append (n + (opened scene leaf k x).count) xs ys ((opened scene leaf k x).does n last)
      ∙ ap (λ i. left_by scene leaf k i ys (left_by scene leaf k (n + (opened scene leaf k x).count) xs ((opened scene leaf k x).does n last))) i

  arm_count_is : (a : Arm) → (opened_arm scene leaf k a).count ≡ length (body_labels a.body)
  arm_count_is a = ap (λ (o : OpenedArm). o.count) (open_arm-is scene leaf k a) ∙ counted_is a.body

  arms_counted_is : (arms : List Arm) → open_text.arms_counted (map (opened_arm scene leaf k) arms) ≡ length (arms_labels arms)
  arms_counted_is [] = refl
  arms_counted_is (a ∷ arms) = ap₂ (λ x y. x + y) (arm_count_is a) (arms_counted_is arms) ∙ sym (length-append (body_labels a.body) (arms_labels arms))

-- What is read

module _ (types : Scope) (leaf : Leaf) (k : ℕ) where
  driving_count : (s : Stmt) → (open_driving types leaf k s).count ≡ length (labels s)
  driving_count s = (reads_of types leaf k s).counts ∙ (labelled s).counts

  drivings_count : (ss : List Stmt) → open_reads.drivings_counted (map (open_driving types leaf k) ss) ≡ length (body_labels ss)
  drivings_count [] = refl
  drivings_count (s ∷ ss) = ap₂ (λ a b. a + b) (driving_count s) (drivings_count ss) ∙ sym (length-append (labels s) (body_labels ss))

  drivings_append : (n : ℕ) (xs ys : List Stmt)
      → drivings n (map (open_driving types leaf k) (xs ++ ys)) ≡ drivings n (map (open_driving types leaf k) xs) ++ drivings (n + length (body_labels xs)) (map (open_driving types leaf k) ys)
  drivings_append n [] ys = ap (λ i. drivings i (map (open_driving types leaf k) ys)) (sym (plus_none n))
  drivings_append n (x ∷ xs) ys =
      let d : OpenDriving = open_driving types leaf k x in
      let c : d.count ≡ length (labels x) = driving_count x in
      let l : length (body_labels (x ∷ xs)) ≡ length (labels x) + length (body_labels xs) = length-append (labels x) (body_labels xs) in
      let i : n + d.count + length (body_labels xs) ≡ n + length (body_labels (x ∷ xs)) = omega (arith, c, l) in
      ap (λ r. record { certain = d.certain; live = d.live n } ∷ r)
      (drivings_append (n + d.count) xs ys ∙ ap (λ i. drivings (n + d.count) (map (open_driving types leaf k) xs) ++ drivings i (map (open_driving types leaf k) ys)) i)

  any_drivings : (n : ℕ) (ds : List OpenDriving) → list_any (λ t. t.certain) (drivings n ds) ≡ list_any (λ t. t.certain) ds
  any_drivings n [] = refl
  any_drivings n (d ∷ ds) = ap (λ b. d.certain || b) (any_drivings (n + d.count) ds)

  any_append : (xs ys : List Stmt) → list_any (λ s. s.certain) (map (open_driving types leaf k) (xs ++ ys)) ≡ (list_any (λ s. s.certain) (map (open_driving types leaf k) xs) || list_any (λ s. s.certain) (map (open_driving types leaf k) ys))
  any_append [] ys = refl
  any_append (x ∷ xs) ys = ap (λ b. (open_driving types leaf k x).certain || b) (any_append xs ys) ∙ either (open_driving types leaf k x).certain _ _
    where
      either : (a b c : Bool) → (a || (b || c)) ≡ ((a || b) || c)
      either true b c = refl
      either false b c = refl

  live_append : (n : ℕ) (xs ys : List Stmt)
      → live_by types leaf k n (xs ++ ys)
      ≡ (if list_any (λ s. s.certain) (map (open_driving types leaf k) ys) then [] else live_by types leaf k n xs) ++ live_by types leaf k (n + length (body_labels xs)) ys
  live_append n xs ys =
      let as_one : List tree_loops.Driving = drivings n (map (open_driving types leaf k) xs) in
      let more : List tree_loops.Driving = drivings (n + length (body_labels xs)) (map (open_driving types leaf k) ys) in
      ap tree_loops.live_from (drivings_append n xs ys) ∙ tree_live_append as_one more
      ∙ ap (λ b. (if b then [] else tree_loops.live_from as_one) ++ tree_loops.live_from more) (any_drivings (n + length (body_labels xs)) (map (open_driving types leaf k) ys))

  reading_count : (a : Arm) → (the_arm types leaf k a).count ≡ length (body_labels a.body)
  reading_count a = ap (λ (o : OpenDrivingArm). o.count) (reads_arm-is types leaf k a) ∙ drivings_count a.body

  readings_count : (arms : List Arm) → open_reads.arms_counted (map (the_arm types leaf k) arms) ≡ length (arms_labels arms)
  readings_count [] = refl
  readings_count (a ∷ arms) = ap₂ (λ x y. x + y) (reading_count a) (readings_count arms) ∙ sym (length-append (body_labels a.body) (arms_labels arms))

-- A statement behind others.
pub text_seq : (N : Numbering) (x : ℕ) (m : TypedModule) (leaf : Leaf) (k n : ℕ) (xs ys : List Stmt) (made : List GroundStmt)
    → IsMeant N x (seq (meant_by m leaf k n xs) (meant_by m leaf k (n + length (body_labels xs)) ys)) made → IsMeant N x (meant_by m leaf k n (xs ++ ys)) made
text_seq N x m leaf k n xs ys made p =
    told N x (seq (meant_by m leaf k n xs) (meant_by m leaf k (n + length (body_labels xs)) ys)) (meant_by m leaf k n (xs ++ ys)) made
    (λ instant last. sym (left_append (scene_at m instant) leaf k n xs ys last)) (sym (any_append (type_in m) leaf k xs ys)) (sym (live_append (type_in m) leaf k n xs ys)) p

-- A `when`

abbrev pub text_arm : TypedModule → Arm → Meant → MeantArm
text_arm m a inner = record {
  holds = λ instant. tree.is_one (tree.value a.condition (scene_at m instant));
  mentioned = tree_reads.joined (tree_reads.mentions a.condition (type_in m));
  body = inner;
}

abbrev pub text_arms : TypedModule → Leaf → ℕ → ℕ → List Arm → List MeantArm
text_arms m leaf k n [] = []
text_arms m leaf k n (a ∷ arms) = text_arm m a (meant_by m leaf k n a.body) ∷ text_arms m leaf k (n + length (body_labels a.body)) arms

module _ (m : TypedModule) (leaf : Leaf) (k : ℕ) where
  effects_text : (instant : Instant) (n : ℕ) (arms : List Arm) → arm_effects n (map (opened_arm (scene_at m instant) leaf k) arms) ≡ effects_of instant (text_arms m leaf k n arms)
  effects_text instant n [] = refl
  effects_text instant n (a ∷ arms) =
      let rest : ℕ → List (Bool × tree_drives.Effect) = λ i. arm_effects (n + i) (map (opened_arm (scene_at m instant) leaf k) arms) in
      ap (λ (o : OpenedArm). (o.holds, o.does n) ∷ rest (opened_arm (scene_at m instant) leaf k a).count) (open_arm-is (scene_at m instant) leaf k a)
      ∙ ap (λ r. (tree.is_one (tree.value a.condition (scene_at m instant)), left_by (scene_at m instant) leaf k n a.body) ∷ r)
      (ap rest (arm_count_is (scene_at m instant) leaf k a) ∙ effects_text instant (n + length (body_labels a.body)) arms)

  drivings_text : (n : ℕ) (arms : List Arm) → arm_drivings n (map (the_arm (type_in m) leaf k) arms) ≡ drivings_of (text_arms m leaf k n arms)
  drivings_text n [] = refl
  drivings_text n (a ∷ arms) =
      let rest : ℕ → List tree_loops.DrivingArm = λ i. arm_drivings (n + i) (map (the_arm (type_in m) leaf k) arms) in
      ap (λ (o : OpenDrivingArm). record { condition = o.condition; certain = o.certain; live = o.live n } ∷ rest (the_arm (type_in m) leaf k a).count) (reads_arm-is (type_in m) leaf k a)
      ∙ ap (λ r. record {
        condition = tree_reads.joined (tree_reads.mentions a.condition (type_in m));
        certain = list_any (λ s. s.certain) (map (open_driving (type_in m) leaf k) a.body);
        live = live_by (type_in m) leaf k n a.body;
      } ∷ r)
      (ap rest (reading_count (type_in m) leaf k a) ∙ drivings_text (n + length (body_labels a.body)) arms)

  certain_text : (n : ℕ) (arms : List Arm) → list_all (λ arm. arm) (map (λ arm. arm.certain) (map (the_arm (type_in m) leaf k) arms)) ≡ list_all (λ arm. arm.certain) (drivings_of (text_arms m leaf k n arms))
  certain_text n [] = refl
  certain_text n (a ∷ arms) = ap₂ (λ x y. x && y) (ap (λ (o : OpenDrivingArm). o.certain) (reads_arm-is (type_in m) leaf k a)) (certain_text (n + length (body_labels a.body)) arms)

  any_text : (ds : List OpenDriving) → list_any (λ s. s) (map (λ s. s.certain) ds) ≡ list_any (λ s. s.certain) ds
  any_text [] = refl
  any_text (d ∷ ds) = ap (λ b. d.certain || b) (any_text ds)

  applied : (b : Bool) (f g : tree_drives.Effect) (last : Option ℤ) → (if b then f else g) last ≡ (if b then f last else g last)
  applied true f g last = refl
  applied false f g last = refl

  or_false : (b : Bool) → (b || false) ≡ b
  or_false true = refl
  or_false false = refl

  when_does : (n : ℕ) (arms : List Arm) (other : List Stmt) (instant : Instant) (last : Option ℤ)
      → left_by (scene_at m instant) leaf k n (stmt.When arms other ∷ []) last ≡ (when_meant (nat_lt k n) (text_arms m leaf k n arms) (meant_by m leaf k (n + length (arms_labels arms)) other)).does instant last
  when_does n arms other instant last =
      let scene : Scene = scene_at m instant in
      let pick : List (Bool × tree_drives.Effect) → ℕ → Option ℤ = λ es i.
      if nat_lt k n then tree_drives.first_holding es (left_by scene leaf k (n + i) other) last else open_text.all_arms es (left_by scene leaf k (n + i) other) last in
      ap (λ (f : tree_drives.Effect). f last) (open-When scene leaf k arms other n) ∙ applied (nat_lt k n) _ _ last ∙ ap₂ pick (effects_text instant n arms) (arms_counted_is scene leaf k arms)

  when_certain : (n : ℕ) (arms : List Arm) (other : List Stmt)
      → (meant_by m leaf k n (stmt.When arms other ∷ [])).certain ≡ (when_meant (nat_lt k n) (text_arms m leaf k n arms) (meant_by m leaf k (n + length (arms_labels arms)) other)).certain
  when_certain n arms other =
      or_false (open_driving (type_in m) leaf k (stmt.When arms other)).certain ∙ ap (λ (d : OpenDriving). d.certain) (reads-When (type_in m) leaf k arms other)
      ∙ ap₂ (λ x y. x && y) (certain_text n arms) (any_text (map (open_driving (type_in m) leaf k) other))

  when_lives : (n : ℕ) (arms : List Arm) (other : List Stmt)
      → live_by (type_in m) leaf k n (stmt.When arms other ∷ []) ≡ (when_meant (nat_lt k n) (text_arms m leaf k n arms) (meant_by m leaf k (n + length (arms_labels arms)) other)).lives
  when_lives n arms other =
      let pick : List tree_loops.DrivingArm → ℕ → List (List Leaf) = λ ds i.
      if nat_lt k n then tree_loops.through_arms [] ds (live_by (type_in m) leaf k (n + i) other) else open_reads.arms_live ds ++ live_by (type_in m) leaf k (n + i) other in
      append-nil ((open_driving (type_in m) leaf k (stmt.When arms other)).live n) ∙ ap (λ (d : OpenDriving). d.live n) (reads-When (type_in m) leaf k arms other)
      ∙ ap₂ pick (drivings_text n arms) (readings_count (type_in m) leaf k arms)

pub text_when : (N : Numbering) (x : ℕ) (m : TypedModule) (leaf : Leaf) (k n : ℕ) (arms : List Arm) (other : List Stmt) (made : List GroundStmt)
    → IsMeant N x (when_meant (nat_lt k n) (text_arms m leaf k n arms) (meant_by m leaf k (n + length (arms_labels arms)) other)) made
    → IsMeant N x (meant_by m leaf k n (stmt.When arms other ∷ [])) made
text_when N x m leaf k n arms other made p =
    told N x (when_meant (nat_lt k n) (text_arms m leaf k n arms) (meant_by m leaf k (n + length (arms_labels arms)) other)) (meant_by m leaf k n (stmt.When arms other ∷ [])) made
    (λ instant last. sym (when_does m leaf k n arms other instant last)) (sym (when_certain m leaf k n arms other)) (sym (when_lives m leaf k n arms other)) p
