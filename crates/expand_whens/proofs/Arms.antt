-- Walks through arms.
use Rattle.std.proofs.Common.{◌≡◌, ℕ, Bool, true, false, List, [], ◌∷◌, ◌++◌, map, length, refl, sym, ap, ◌∙◌, subst, nat_lt, ◌&&◌, ◌||◌, not, if◌then◌else◌, Option, append-nil, append_assoc, take, drop, get_or, ◌<◌, ◌+◌}
use Rattle.std.specs.Global.{Vec}
use Rattle.std.specs.List.{flat_map, list_all}
use Rattle.std.proofs.Math.Seq.{take-length, drop-length}
use Rattle.std.proofs.lemmas.List.{map-append, take_more, drop_more}
use Rattle.bit_words.specs.declared.value.Value.{Value}
use Rattle.ground_net.specs.declared.circuit.GroundStmt.{GroundStmt}
use Rattle.ground_net.specs.declared.circuit.GroundStmt.TheVariants.{When}
use Rattle.ground_net.specs.declared.circuit.GroundArm.{GroundArm}
use Rattle.ground_net.specs.Grounds.{Instant, value, mentions, joined}
use Rattle.prim_ops.specs.Values.{is_one}
use Rattle.ground_net.specs.Statements.{Effect, first_holding, all_arms, DrivingArm, live, is_certain, crossing, through_arms}
use Rattle.expand_whens.specs.declared.guard.Asked.{Asked}
use Rattle.expand_whens.specs.declared.guard.Way.{Way}
use Rattle.expand_whens.specs.Ways.{Same, crossed, crossed_mentions, outcome, ways_mentions, accepted, refusal, refusals}
use Rattle.expand_whens.specs.Walking.{Walks, BlockWalks, ArmsWalk, block_effect, arm_effect, arms_effect, driving_arm, arms_live, arms_certain, has, is_covered, ways_at}
use Rattle.expand_whens.proofs.Tests.{left_true, right_true}
use Rattle.expand_whens.proofs.Members.{added_before}
use Rattle.expand_whens.proofs.Layers.{effect-When, arm_effect-is, certain-When, live-When, driving_arm-condition, driving_arm-certain, driving_arm-live}
use Rattle.expand_whens.proofs.Guards.{crossed_push, crossed_mentions_push}
use Rattle.expand_whens.proofs.Making.{joined_crossing-append}

-- a walk, told in other words
pub walks_told : (asked : List Asked) (does other : Instant → ℕ → Effect) (lives others : ℕ → List (List ℕ)) (surely certain : ℕ → Bool)
    (covered : List Bool) (old new : List (Vec Way)) (newly : List ℕ)
    → ((instant : Instant) (leaf : ℕ) (last : Option Value) → does instant leaf last ≡ other instant leaf last) → ((leaf : ℕ) → lives leaf ≡ others leaf) → ((leaf : ℕ) → surely leaf ≡ certain leaf)
    → Walks asked does lives surely covered old new newly → Walks asked other others certain covered old new newly
walks_told asked does other lives others surely certain covered old new newly d l s w = record {
  counted = w.counted;
  made = λ leaf u.
      let m = w.made leaf u in record {
        leaves = λ instant last. m.leaves instant last ∙ ap (λ x. outcome instant (ways_at old leaf) (if crossed instant leaf asked then x else last)) (d instant leaf last);
        reads = subst (λ ls. Same (ways_mentions (ways_at new leaf)) (ways_mentions (ways_at old leaf) ++ joined (crossing (crossed_mentions leaf asked) ls))) (l leaf) m.reads;
      };
  stays = w.stays;
  listed = λ leaf. w.listed leaf ∙ ap (λ b. not (is_covered covered leaf) && b) (s leaf);
  settles = λ leaf h instant last before. sym (d instant leaf last) ∙ (w.settles leaf h instant last before ∙ d instant leaf before);
}

pub crossing_none : (ls : List (List ℕ)) → crossing [] ls ≡ ls
crossing_none [] = refl
crossing_none (l ∷ ls) = ap (λ ms. l ∷ ms) (crossing_none ls)

crossing_twice : (c d : List ℕ) (ls : List (List ℕ)) → crossing c (crossing d ls) ≡ crossing (c ++ d) ls
crossing_twice c d [] = refl
crossing_twice c d (l ∷ ls) = ap (λ m. m ∷ crossing c (crossing d ls)) (sym (append_assoc c d l)) ∙ ap (λ ms. ((c ++ d) ++ l) ∷ ms) (crossing_twice c d ls)

through_crossing : (c : List ℕ) (ds : List DrivingArm) (o : List (List ℕ)) → through_arms c ds o ≡ crossing c (through_arms [] ds o)
through_crossing c [] o = ap (crossing c) (sym (crossing_none o))
through_crossing c (d ∷ ds) o =
    ap (λ ls. ls ++ through_arms (c ++ d.condition) ds o) (sym (crossing_twice c d.condition d.live))
    ∙ (ap (λ ls. crossing c (crossing d.condition d.live) ++ ls) (through_crossing (c ++ d.condition) ds o ∙ (sym (crossing_twice c d.condition (through_arms [] ds o)) ∙ ap (crossing c) (sym (through_crossing d.condition ds o))))
    ∙ sym (map-append (λ l. c ++ l) (crossing d.condition d.live) (through_arms d.condition ds o)))

-- the live connects of arms, by whether their conditions are asked
abbrev pub lives_of : Bool → List DrivingArm → List (List ℕ) → List (List ℕ)
lives_of n ds o = if n then through_arms [] ds o else flat_map (λ arm. arm.live) ds ++ o

lives_none : (n : Bool) (o : List (List ℕ)) → lives_of n [] o ≡ o
lives_none true o = crossing_none o
lives_none false o = refl

lives_split : (n : Bool) (c : List ℕ) (d : DrivingArm) (ds : List DrivingArm) (o : List (List ℕ))
    → joined (crossing c (lives_of n (d ∷ ds) o)) ≡ joined (crossing (c ++ (if n then d.condition else [])) d.live) ++ joined (crossing (c ++ (if n then d.condition else [])) (lives_of n ds o))
lives_split true c d ds o =
    joined_crossing-append c (crossing d.condition d.live) (through_arms d.condition ds o)
    ∙ (ap (λ ls. joined ls ++ joined (crossing c (through_arms d.condition ds o))) (crossing_twice c d.condition d.live)
    ∙ ap (λ ls. joined (crossing (c ++ d.condition) d.live) ++ joined ls) (ap (crossing c) (through_crossing d.condition ds o) ∙ crossing_twice c d.condition (through_arms [] ds o)))
lives_split false c d ds o =
    ap (λ ls. joined (crossing c ls)) (append_assoc d.live (flat_map (λ arm. arm.live) ds) o)
    ∙ (joined_crossing-append c d.live (flat_map (λ arm. arm.live) ds ++ o)
    ∙ ap (λ e. joined (crossing e d.live) ++ joined (crossing e (flat_map (λ arm. arm.live) ds ++ o))) (sym (append-nil c)))

-- what arms do, by whether their conditions are asked
abbrev pub arms_do : Bool → List (Bool × Effect) → Effect → Effect
arms_do n arms other last = if n then first_holding arms other last else all_arms arms other last

do_none : (n : Bool) (other : Effect) (last : Option Value) → arms_do n [] other last ≡ other last
do_none true other last = refl
do_none false other last = refl

do_step : (n c q : Bool) (body : Effect) (arms : List (Bool × Effect)) (other : Effect) (last : Option Value)
    → (if c && (if n then not q else true) then arms_do n arms other (if c && (if n then q else true) then body last else last) else (if c && (if n then q else true) then body last else last))
    ≡ if c then arms_do n ((q, body) ∷ arms) other last else last
do_step true true true body arms other last = refl
do_step true true false body arms other last = refl
do_step true false q body arms other last = refl
do_step false true true body arms other last = refl
do_step false true false body arms other last = refl
do_step false false q body arms other last = refl

settle_step : (n q : Bool) (body : Effect) (arms : List (Bool × Effect)) (other : Effect) → ((x y : Option Value) → body x ≡ body y) → ((x y : Option Value) → arms_do n arms other x ≡ arms_do n arms other y)
    → (x y : Option Value) → arms_do n ((q, body) ∷ arms) other x ≡ arms_do n ((q, body) ∷ arms) other y
settle_step true true body arms other b r x y = b x y
settle_step true false body arms other b r x y = r x y
settle_step false q body arms other b r x y = r (body x) (body y)

-- the `else` alone
pub arms_none : (asked : List Asked) (first : ℕ) (other : List GroundStmt) (covered : List Bool) (old new : List (Vec Way)) (newly : List ℕ)
    → BlockWalks asked other covered old new newly → ArmsWalk asked first [] other covered old new newly
arms_none asked first other covered old new newly = walks_told _ _ _ _ _ _ _ _ _ _ _
    (λ instant leaf last. sym (do_none (nat_lt leaf first) (block_effect instant leaf other) last))
    (λ leaf. sym (lives_none (nat_lt leaf first) (live leaf other)))
    (λ leaf. refl)

all_certain : (c a l o : Bool) → ((not c && (l && o)) && (not c && a)) ≡ (not c && ((a && l) && o))
all_certain true a l o = refl
all_certain false true true true = refl
all_certain false true true false = refl
all_certain false true false o = refl
all_certain false false true true = refl
all_certain false false true false = refl
all_certain false false false o = refl

-- an arm before those that were walked through
module _ (asked : List Asked) (first : ℕ) (arm : GroundArm) (rest : List GroundArm) (other : List GroundStmt) (covered : List Bool) (old mid new : List (Vec Way)) (late_ones early_ones all : List ℕ)
    (no : Asked) (is_first : no.first ≡ first) (is_condition : no.condition ≡ arm.condition) (is_refused : no.holds ≡ false)
    (late : ArmsWalk (asked ++ no ∷ []) first rest other covered old mid late_ones) (early : BlockWalks (asked ++ accepted no ∷ []) arm.body covered mid new early_ones)
    (is_both : (leaf : ℕ) → has all leaf ≡ (has late_ones leaf && has early_ones leaf)) where
  test_no : (instant : Instant) (leaf : ℕ) → crossed instant leaf (asked ++ no ∷ []) ≡ (crossed instant leaf asked && (if nat_lt leaf first then not (is_one (value arm.condition instant)) else true))
  test_no instant leaf = crossed_push instant leaf asked no ∙ (ap (λ f. crossed instant leaf asked && (if nat_lt leaf f then (if no.holds then is_one (value no.condition instant) else not (is_one (value no.condition instant))) else true)) is_first
      ∙ (ap (λ g. crossed instant leaf asked && (if nat_lt leaf first then (if no.holds then is_one (value g instant) else not (is_one (value g instant))) else true)) is_condition
      ∙ ap (λ b. crossed instant leaf asked && (if nat_lt leaf first then (if b then is_one (value arm.condition instant) else not (is_one (value arm.condition instant))) else true)) is_refused))

  test_yes : (instant : Instant) (leaf : ℕ) → crossed instant leaf (asked ++ accepted no ∷ []) ≡ (crossed instant leaf asked && (if nat_lt leaf first then is_one (value arm.condition instant) else true))
  test_yes instant leaf = crossed_push instant leaf asked (accepted no) ∙ (ap (λ f. crossed instant leaf asked && (if nat_lt leaf f then is_one (value no.condition instant) else true)) is_first
      ∙ ap (λ g. crossed instant leaf asked && (if nat_lt leaf first then is_one (value g instant) else true)) is_condition)

  mentions_no : (leaf : ℕ) → crossed_mentions leaf (asked ++ no ∷ []) ≡ crossed_mentions leaf asked ++ (if nat_lt leaf first then mentions arm.condition else [])
  mentions_no leaf = crossed_mentions_push leaf asked no ∙ (ap (λ f. crossed_mentions leaf asked ++ (if nat_lt leaf f then mentions no.condition else [])) is_first
      ∙ ap (λ g. crossed_mentions leaf asked ++ (if nat_lt leaf first then mentions g else [])) is_condition)

  mentions_yes : (leaf : ℕ) → crossed_mentions leaf (asked ++ accepted no ∷ []) ≡ crossed_mentions leaf asked ++ (if nat_lt leaf first then mentions arm.condition else [])
  mentions_yes leaf = crossed_mentions_push leaf asked (accepted no) ∙ (ap (λ f. crossed_mentions leaf asked ++ (if nat_lt leaf f then mentions no.condition else [])) is_first
      ∙ ap (λ g. crossed_mentions leaf asked ++ (if nat_lt leaf first then mentions g else [])) is_condition)

  step_leaves : (leaf : ℕ) → is_covered covered leaf ≡ false → (instant : Instant) (last : Option Value)
      → outcome instant (ways_at new leaf) last ≡ outcome instant (ways_at old leaf) (if crossed instant leaf asked then arms_effect instant leaf first (arm ∷ rest) other last else last)
  step_leaves leaf u instant last =
      let body = block_effect instant leaf arm.body in
      let others = λ (x : Option Value). arms_effect instant leaf first rest other x in
      let after = if crossed instant leaf (asked ++ accepted no ∷ []) then body last else last in
      (early.made leaf u).leaves instant last ∙ ((late.made leaf u).leaves instant after
      ∙ ap (outcome instant (ways_at old leaf))
      (ap (λ b. if crossed instant leaf (asked ++ no ∷ []) then others (if b then body last else last) else (if b then body last else last)) (test_yes instant leaf)
      ∙ (ap (λ b. if b then others (if crossed instant leaf asked && (if nat_lt leaf first then is_one (value arm.condition instant) else true) then body last else last)
      else (if crossed instant leaf asked && (if nat_lt leaf first then is_one (value arm.condition instant) else true) then body last else last)) (test_no instant leaf)
      ∙ (do_step (nat_lt leaf first) (crossed instant leaf asked) (is_one (value arm.condition instant)) body (map (arm_effect instant leaf) rest) (block_effect instant leaf other) last
      ∙ ap (λ e. if crossed instant leaf asked then arms_do (nat_lt leaf first) (e ∷ map (arm_effect instant leaf) rest) (block_effect instant leaf other) last else last) (sym (arm_effect-is instant leaf arm))))))

  step_reads : (leaf : ℕ) → is_covered covered leaf ≡ false
      → Same (ways_mentions (ways_at new leaf)) (ways_mentions (ways_at old leaf) ++ joined (crossing (crossed_mentions leaf asked) (arms_live leaf first (arm ∷ rest) other)))
  step_reads leaf u =
      let c = crossed_mentions leaf asked ++ (if nat_lt leaf first then mentions arm.condition else []) in
      let rest_live = arms_live leaf first rest other in
      let first_reads : Same (ways_mentions (ways_at new leaf)) (ways_mentions (ways_at mid leaf) ++ joined (crossing c (live leaf arm.body))) =
      subst (λ m. Same (ways_mentions (ways_at new leaf)) (ways_mentions (ways_at mid leaf) ++ joined (crossing m (live leaf arm.body)))) (mentions_yes leaf) (early.made leaf u).reads in
      let rest_reads : Same (ways_mentions (ways_at mid leaf)) (ways_mentions (ways_at old leaf) ++ joined (crossing c rest_live)) =
      subst (λ m. Same (ways_mentions (ways_at mid leaf)) (ways_mentions (ways_at old leaf) ++ joined (crossing m rest_live))) (mentions_no leaf) (late.made leaf u).reads in
      let same_condition = ap (λ m. crossed_mentions leaf asked ++ (if nat_lt leaf first then m else [])) (sym (driving_arm-condition leaf arm)) in
      let split = lives_split (nat_lt leaf first) (crossed_mentions leaf asked) (driving_arm leaf arm) (map (driving_arm leaf) rest) (live leaf other) in
      subst (λ xs. Same (ways_mentions (ways_at new leaf)) (ways_mentions (ways_at old leaf) ++ xs))
      (ap (λ m. joined (crossing m (live leaf arm.body)) ++ joined (crossing m rest_live)) same_condition
      ∙ (ap (λ ls. joined (crossing (crossed_mentions leaf asked ++ (if nat_lt leaf first then (driving_arm leaf arm).condition else [])) ls)
      ++ joined (crossing (crossed_mentions leaf asked ++ (if nat_lt leaf first then (driving_arm leaf arm).condition else [])) rest_live)) (sym (driving_arm-live leaf arm))
      ∙ sym split))
      (added_before _ _ _ (joined (crossing c (live leaf arm.body))) (joined (crossing c rest_live)) first_reads rest_reads)

  step_listed : (leaf : ℕ) → has all leaf ≡ (not (is_covered covered leaf) && arms_certain leaf (arm ∷ rest) other)
  step_listed leaf = is_both leaf ∙ (ap (λ b. b && has early_ones leaf) (late.listed leaf)
      ∙ (ap (λ b. (not (is_covered covered leaf) && arms_certain leaf rest other) && b) (early.listed leaf)
      ∙ (all_certain (is_covered covered leaf) (is_certain leaf arm.body) (list_all (λ a. a.certain) (map (driving_arm leaf) rest)) (is_certain leaf other)
      ∙ ap (λ b. not (is_covered covered leaf) && ((b && list_all (λ a. a.certain) (map (driving_arm leaf) rest)) && is_certain leaf other)) (sym (driving_arm-certain leaf arm)))))

  step_settles : (leaf : ℕ) → has all leaf ≡ true → (instant : Instant) (last before : Option Value) → arms_effect instant leaf first (arm ∷ rest) other last ≡ arms_effect instant leaf first (arm ∷ rest) other before
  step_settles leaf h instant last before =
      let in_both = sym (is_both leaf) ∙ h in
      subst (λ e. arms_do (nat_lt leaf first) (e ∷ map (arm_effect instant leaf) rest) (block_effect instant leaf other) last ≡ arms_do (nat_lt leaf first) (e ∷ map (arm_effect instant leaf) rest) (block_effect instant leaf other) before)
      (sym (arm_effect-is instant leaf arm))
      (settle_step (nat_lt leaf first) (is_one (value arm.condition instant)) (block_effect instant leaf arm.body) (map (arm_effect instant leaf) rest) (block_effect instant leaf other)
      (early.settles leaf (right_true (has late_ones leaf) (has early_ones leaf) in_both) instant) (late.settles leaf (left_true (has late_ones leaf) (has early_ones leaf) in_both) instant) last before)

  stays_on : (leaf : ℕ) → is_covered covered leaf ≡ true → ways_at new leaf ≡ ways_at old leaf
  stays_on leaf c = early.stays leaf c ∙ late.stays leaf c

  pub arms_more : ArmsWalk asked first (arm ∷ rest) other covered old new all
  arms_more = record {
    counted = early.counted ∙ late.counted;
    made = λ leaf u. record { leaves = step_leaves leaf u; reads = step_reads leaf u };
    stays = stays_on;
    listed = step_listed;
    settles = step_settles;
  }

or_false : (b : Bool) → b ≡ (b || false)
or_false true = refl
or_false false = refl

-- a `when` is its arms
pub walks_when : (asked : List Asked) (first : ℕ) (arms : List GroundArm) (other : List GroundStmt) (covered : List Bool) (old new : List (Vec Way)) (newly : List ℕ)
    → ArmsWalk asked first arms other covered old new newly → BlockWalks asked (When first arms other ∷ []) covered old new newly
walks_when asked first arms other covered old new newly = walks_told _ _ _ _ _ _ _ _ _ _ _
    (λ instant leaf last. sym (effect-When instant leaf first arms other last))
    (λ leaf. sym (append-nil _ ∙ live-When leaf first arms other))
    (λ leaf. sym (certain-When leaf first arms other) ∙ or_false _)

-- the walk of arms from their end
pub refusals_push : (before : List Asked) (first : ℕ) (arms : List GroundArm) (k n : ℕ) (arm : GroundArm) → n ≡ k + 1 → k < length arms → arm ≡ get_or arms k arm
    → before ++ refusals first (take n arms) ≡ (before ++ refusals first (take k arms)) ++ refusal first arm ∷ []
refusals_push before first arms k n arm e below is =
    ap (λ m. before ++ refusals first (take m arms)) e
    ∙ (ap (λ xs. before ++ refusals first xs) (take_more arms k arm below ∙ ap (λ x. take k arms ++ x ∷ []) (sym is))
    ∙ (ap (λ xs. before ++ xs) (map-append (refusal first) (take k arms) (arm ∷ []))
    ∙ sym (append_assoc before (refusals first (take k arms)) (refusal first arm ∷ []))))

pub arms_begin : (asked before : List Asked) (first : ℕ) (arms : List GroundArm) (other : List GroundStmt) (covered : List Bool) (old new : List (Vec Way)) (newly : List ℕ)
    → asked ≡ before ++ refusals first arms → BlockWalks asked other covered old new newly
    → ArmsWalk (before ++ refusals first (take (length arms) arms)) first (drop (length arms) arms) other covered old new newly
arms_begin asked before first arms other covered old new newly e w =
    subst (λ xs. ArmsWalk (before ++ refusals first xs) first (drop (length arms) arms) other covered old new newly) (sym (take-length arms))
    (subst (λ xs. ArmsWalk (before ++ refusals first arms) first xs other covered old new newly) (sym (drop-length arms))
    (arms_none (before ++ refusals first arms) first other covered old new newly (subst (λ a. BlockWalks a other covered old new newly) e w)))

pub arms_next : (before asked : List Asked) (first : ℕ) (arms : List GroundArm) (k n : ℕ) (arm : GroundArm) (other : List GroundStmt) (covered : List Bool) (old mid new : List (Vec Way)) (late_ones early_ones all : List ℕ)
    → n ≡ k + 1 → k < length arms → arm ≡ get_or arms k arm
    → ArmsWalk (before ++ refusals first (take n arms)) first (drop n arms) other covered old mid late_ones
    → asked ≡ (before ++ refusals first (take k arms)) ++ accepted (refusal first arm) ∷ []
    → BlockWalks asked arm.body covered mid new early_ones → ((leaf : ℕ) → has all leaf ≡ (has late_ones leaf && has early_ones leaf))
    → ArmsWalk (before ++ refusals first (take k arms)) first (drop k arms) other covered old new all
arms_next before asked first arms k n arm other covered old mid new late_ones early_ones all e below is late a early both =
    let grown : drop k arms ≡ arm ∷ drop n arms = drop_more arms k arm below ∙ (ap (λ x. x ∷ drop (k + 1) arms) (sym is) ∙ ap (λ m. arm ∷ drop m arms) (sym e)) in
    subst (λ xs. ArmsWalk (before ++ refusals first (take k arms)) first xs other covered old new all) (sym grown)
    (arms_more (before ++ refusals first (take k arms)) first arm (drop n arms) other covered old mid new late_ones early_ones all (refusal first arm) refl refl refl
    (subst (λ xs. ArmsWalk xs first (drop n arms) other covered old mid late_ones) (refusals_push before first arms k n arm e below is) late)
    (subst (λ xs. BlockWalks xs arm.body covered mid new early_ones) a early) both)

pub arms_end : (before : List Asked) (first : ℕ) (arms : List GroundArm) (n : ℕ) (other : List GroundStmt) (covered : List Bool) (old new : List (Vec Way)) (newly : List ℕ)
    → n ≡ 0 → ArmsWalk (before ++ refusals first (take n arms)) first (drop n arms) other covered old new newly → ArmsWalk before first arms other covered old new newly
arms_end before first arms n other covered old new newly z w =
    subst (λ xs. ArmsWalk xs first arms other covered old new newly) (append-nil before)
    (subst (λ m. ArmsWalk (before ++ refusals first (take m arms)) first (drop m arms) other covered old new newly) z w)

pub arms_step : (before asked : List Asked) (first : ℕ) (arms : List GroundArm) (k n : ℕ) (arm : GroundArm) (body : List GroundStmt) (other : List GroundStmt) (covered same : List Bool) (old mid new : List (Vec Way)) (late_ones early_ones all : List ℕ)
    → n ≡ k + 1 → k < length arms → arm ≡ get_or arms k arm → body ≡ arm.body → same ≡ covered
    → ArmsWalk (before ++ refusals first (take n arms)) first (drop n arms) other covered old mid late_ones
    → asked ≡ (before ++ refusals first (take k arms)) ++ accepted (refusal first arm) ∷ []
    → BlockWalks asked body same mid new early_ones → ((leaf : ℕ) → has all leaf ≡ (has late_ones leaf && has early_ones leaf))
    → ArmsWalk (before ++ refusals first (take k arms)) first (drop k arms) other covered old new all
arms_step before asked first arms k n arm body other covered same old mid new late_ones early_ones all e below is b s late a early both =
    arms_next before asked first arms k n arm other covered old mid new late_ones early_ones all e below is late a
    (subst (λ xs. BlockWalks asked xs covered mid new early_ones) b (subst (λ xs. BlockWalks asked body xs mid new early_ones) s early)) both
