-- How long a delay lasts, by the value of its delayTime.
use Rattle.std.proofs.Common.{ℕ, ℤ, pos, negsuc, FitsSigned, to_z, of_z, ◌≡◌, ◌+◌, ◌-◌, ◌/◌, ◌<◌, ◌≤◌, length, List, [], take, Some, true, false, inl, inr, refl, sym, ◌∙◌, ap, subst, arith}
use Rattle.std.specs.Prelude.{if◌then◌else◌, nat_lt, max}
use Rattle.std.proofs.lemmas.Bool.Decides.{nat_tests}
use Rattle.std.specs.Int.{w32, w64}
use Rattle.std.proofs.lemmas.Int.{ints, to_z-of_z}
use Rattle.wa_base.specs.Numbers.{IsFix}
use Rattle.wa_base.specs.declared.graph_names.ParamName.TheVariants as param
use Rattle.law_base.specs.Members.{IsIn}
use Rattle.node_table.specs.Delays.{frames_of}
use Rattle.node_table.specs.Kinds.{row, is_delay_kind, param_name}
use Rattle.node_table.specs.declared.kinds.Kind.{Kind}
use Rattle.node_table.specs.declared.kinds.Kind.TheVariants.{Delay}
use Rattle.node_table.proofs.NodeLists.{IsRow}
use Rattle.conn_graph.specs.Ends.{writer_of, in_cycle}
use Rattle.meaning.specs.declared.world.World.{World}
use Rattle.meaning.specs.World.{sounding, node_at, kind_of, param_id, up_to, nominal}
use Rattle.meaning.specs.Validity.{IsValid}
use Rattle.meaning.specs.Values.{Frame, computed_value, delay_frames, world_at}
use Rattle.meaning.proofs.NodeKinds.{row_there}
use Rattle.meaning.proofs.Successors.{div-le-div}
use Rattle.explain.specs.declared.facts.Key.{Key}
use Rattle.explain.specs.declared.facts.Key.TheVariants.{Par}
use Rattle.explain.specs.declared.facts.Fact.{Fact}
use Rattle.explain.specs.Accounts.{Account, meant, frame_in, frames_in}
use Rattle.explain.specs.Facts.{HasOutput, IsKeyOf}
use Rattle.explain.specs.Needs.{carried, delayed_needs}
use Rattle.explain.specs.Checked.{AllHold, Stands}
use Rattle.derivations.specs.declared.tape.Stretch.{Stretch}
use Rattle.derivations.specs.Groups.{delayed_keys}
use Rattle.derivations.specs.Searches.{IsReady, AreKnown, IsMissing}
use Rattle.derivations.specs.Stretches.{IsInForce}
use Rattle.derivations.proofs.Filing.{got_low}
use Rattle.derivations.proofs.Knowing.{in_meaning, value_of}
use Rattle.derivations.proofs.Staying.{writer_there, born_by}
use Rattle.derivations.proofs.Worlds.{world_is, valid_there}

-- ---- a value in the nominal range of a delay is a Fix

up_to_fix : (longest x : ℤ) → IsFix longest → IsFix (up_to longest x)
up_to_fix (pos most) (pos x) fix = let low = fix.0 in let high = fix.1 in (omega (arith, ints), omega (arith, ints))
up_to_fix (pos most) (negsuc x) fix = (omega (arith, ints), omega (arith, ints))
up_to_fix (negsuc most) x fix = (omega (arith, ints), omega (arith, ints))

nominal_fix : (kind : Kind) (x : ℤ) → is_delay_kind kind ≡ true → IsRow (row kind) → IsFix (nominal kind x)
nominal_fix (Delay longest time capacity) x is fine = up_to_fix longest x fine.range
nominal_fix other x is fine = absurd cc

computed_fix : (q f : ℕ) (past : ℕ → Frame) (here : Frame) (n : ℕ) → is_delay_kind (kind_of here.world n) ≡ true → IsRow (row (kind_of here.world n)) → IsFix (computed_value q f past here (param_id n param.DelayTime))
unfolding computed_value
computed_fix q f past here n is fine = nominal_fix (kind_of here.world n) _ is fine

module _ (q : ℕ) (tape : List World) (facts : List Fact) (ready : IsReady q tape facts) (f n : ℕ) (w : World) (is : world_at q tape f ≡ sounding w) where
  abbrev time : Key
  time = Par f (record { 0 = n }) param.DelayTime

  -- the known value of its delayTime is one
  pub time_fix : IsValid w → is_delay_kind (kind_of w n) ≡ true → (x : Fact) → IsIn x facts → x.key ≡ time → IsFix x.value
  time_fix valid delay x h same =
      let a : Account = meant q tape in
      subst IsFix (value_of q tape facts ready a (in_meaning q tape facts ready) time x h same)
      (computed_fix q f (frames_in q tape a f) (frame_in q tape a f) n (ap (λ y. is_delay_kind (kind_of y n)) is ∙ delay) (subst (λ y. IsRow (row (kind_of y n))) (sym is) (row_there w valid n)))

  abbrev lasting_in : World → ℤ → ℕ
  lasting_in x v = let frames = frames_of v x.spec.rate in if in_cycle x.graph.value n then max q frames else frames

  -- and gives how long it lasts, in each account
  pub lasts : (a : Account) → AllHold q tape a facts → (x : Fact) → IsIn x facts → x.key ≡ time → delay_frames q f (frames_in q tape a f) (frame_in q tape a f) n ≡ lasting_in w x.value
  lasts a all x h same = ap (lasting_in (world_at q tape f)) (value_of q tape facts ready a all time x h same) ∙ ap (λ y. lasting_in y x.value) is

  abbrev before : Account → ℕ → List Key
  before a d = if nat_lt f ((node_at w n).attrs.birth + d) then [] else carried q tape a (f - d) (writer_of n) 0

  -- what is needed of the writer
  pub delayed_is : (a : Account) (d : ℕ) → delay_frames q f (frames_in q tape a f) (frame_in q tape a f) n ≡ d → delayed_keys q tape a f n ≡ before a d
  delayed_is a d same =
      ap (λ k. if nat_lt f ((node_at (world_at q tape f) n).attrs.birth + k) then [] else carried q tape a (f - k) (writer_of n) 0) same
      ∙ ap (λ (y : World). if nat_lt f ((node_at y n).attrs.birth + d) then [] else carried q tape a (f - d) (writer_of n) 0) is

  pub young_delay : (a : Account) (d : ℕ) → f < (node_at w n).attrs.birth + d → before a d ≡ []
  young_delay a d young = ap (λ t. if t then [] else carried q tape a (f - d) (writer_of n) 0) (let t : nat_lt f ((node_at w n).attrs.birth + d) ≡ true = grind (arith, nat_tests) in t)

  pub old_delay : (a : Account) (d : ℕ) → (node_at w n).attrs.birth + d ≤ f → before a d ≡ carried q tape a (f - d) (writer_of n) 0
  old_delay a d old = ap (λ t. if t then [] else carried q tape a (f - d) (writer_of n) 0) (let t : nat_lt f ((node_at w n).attrs.birth + d) ≡ false = grind (arith, nat_tests) in t)

-- the delayTime stands, and so does what the writer took in
module _ (q : ℕ) (tape : List World) (facts : List Fact) (f n : ℕ) where
  abbrev time_key : Key
  time_key = Par f (record { 0 = n }) param.DelayTime

  pub delayed_known : Stands time_key facts → AreKnown q tape facts (λ a. delayed_keys q tape a f n) → AreKnown q tape facts (λ a. delayed_needs q tape a f n)
  delayed_known first more a all k (inl same) = subst (λ x. Stands x facts) (sym same) first
  delayed_known first more a all k (inr h) = more a all k h

  pub delayed_missing : (k : Key) → IsMissing q tape facts (λ a. delayed_keys q tape a f n) k → IsMissing q tape facts (λ a. delayed_needs q tape a f n) k
  delayed_missing k missing = record { needed = λ a all. inr (missing.needed a all); absent = missing.absent; key = missing.key }

-- a Fix is cast as it is
fits_long : (z : ℤ) → IsFix z → FitsSigned w64 z
fits_long (pos k) fix = let low = fix.0 in let high = fix.1 in record { sfits = omega (arith, ints) }
fits_long (negsuc k) fix = let low = fix.0 in let high = fix.1 in record { sfits = omega (arith, ints) }

fits_short : (z : ℤ) → IsFix z → FitsSigned w32 z
fits_short (pos k) fix = let low = fix.0 in let high = fix.1 in record { sfits = omega (arith, ints) }
fits_short (negsuc k) fix = let low = fix.0 in let high = fix.1 in record { sfits = omega (arith, ints) }

long_is : (z : ℤ) → IsFix z → to_z w64 (of_z w64 z) ≡ z
long_is z fix = to_z-of_z w64 z (fits_long z fix)

pub cast_fits : (z : ℤ) → IsFix z → FitsSigned w32 (to_z w64 (of_z w64 z))
cast_fits z fix = subst (FitsSigned w32) (sym (long_is z fix)) (fits_short z fix)

pub cast_is : (z : ℤ) → IsFix z → to_z w32 (of_z w32 (to_z w64 (of_z w64 z))) ≡ z
cast_is z fix = to_z-of_z w32 (to_z w64 (of_z w64 z)) (cast_fits z fix) ∙ long_is z fix

has_time : (kind : Kind) → is_delay_kind kind ≡ true → param_name kind ≡ Some param.DelayTime
has_time (Delay longest time capacity) is = refl
has_time other is = absurd cc

-- ---- of a delay in the world that is in force, whose delayTime is known

module _ (q : ℕ) (tape : List World) (facts : List Fact) (ready : IsReady q tape facts) (f n : ℕ) (s : Stretch) (force : IsInForce tape (f / q) s) (low : n < length s.piece.world.nodes)
    (delay : is_delay_kind (kind_of s.piece.world n) ≡ true) where
  abbrev w : World
  w = s.piece.world

  is : world_at q tape f ≡ sounding w
  is = world_is tape (f / q) w force.there

  short : f / q < length tape
  short = got_low tape (f / q) w force.there

  there : n < length (world_at q tape f).nodes
  there = subst (λ (x : World). n < length x.nodes) (sym is) low

  delays : is_delay_kind (kind_of (world_at q tape f) n) ≡ true
  delays = ap (λ (x : World). is_delay_kind (kind_of x n)) is ∙ delay

  born_is : (node_at (world_at q tape f) n).attrs.birth ≡ (node_at w n).attrs.birth
  born_is = ap (λ (x : World). (node_at x n).attrs.birth) is

  pub time_key_of : IsKeyOf q tape (time_key q tape facts f n)
  time_key_of = record { quantum = short; place = (there, has_time (kind_of (world_at q tape f) n) delays) }

  -- its delayTime is missing
  pub time_missing : (Stands (time_key q tape facts f n) facts → ⊥) → IsMissing q tape facts (λ a. delayed_needs q tape a f n) (time_key q tape facts f n)
  time_missing absent = record { needed = λ a all. inl refl; absent = absent; key = time_key_of }

  pub born_before : (node_at w n).attrs.birth ≤ f
  born_before = subst (λ k. k ≤ f) born_is (born_by q ready.some tape ready.regular f n short there)

  module _ (x : Fact) (known : IsIn x facts) (same : x.key ≡ time_key q tape facts f n) where
    pub time_is_fix : IsFix x.value
    time_is_fix = time_fix q tape facts ready f n w is (valid_there tape ready.regular.valid (f / q) w force.there) delay x known same

    module _ (d : ℕ) (long : d ≡ (let frames = frames_of x.value w.spec.rate in if in_cycle w.graph.value n then max q frames else frames)) where
      keys_are : (a : Account) → AllHold q tape a facts → delayed_keys q tape a f n ≡ before q tape facts ready f n w is a d
      keys_are a all = delayed_is q tape facts ready f n w is a d (lasts q tape facts ready f n w is a all x known same ∙ sym long)

      stands : Stands (time_key q tape facts f n) facts
      stands = (x, known, same)

      -- where it was not born then, its delayTime is enough
      pub young_known : f < (node_at w n).attrs.birth + d → AreKnown q tape facts (λ a. delayed_needs q tape a f n)
      young_known young = delayed_known q tape facts f n stands (λ a all k h. absurd (subst (IsIn k) (keys_are a all ∙ young_delay q tape facts ready f n w is a d young) h))

      -- else what its writer took in then is needed
      module _ (old : (node_at w n).attrs.birth + d ≤ f) where
        old_keys : (a : Account) → AllHold q tape a facts → delayed_keys q tape a f n ≡ carried q tape a (f - d) (writer_of n) 0
        old_keys a all = keys_are a all ∙ old_delay q tape facts ready f n w is a d old

        pub old_frame : (f - d) / q < length tape
        old_frame = let l = div-le-div (f - d) f q ready.some (omega arith) in let m = short in omega (arith, l, m)

        pub old_writer : HasOutput (world_at q tape (f - d)) (writer_of n) 0
        old_writer =
            writer_there q ready.some tape ready.regular (f / q) n short there delays ((f - d) / q) (div-le-div (f - d) f q ready.some (omega arith))
            (subst (λ k. k / q ≤ (f - d) / q) (sym born_is) (div-le-div (node_at w n).attrs.birth (f - d) q ready.some (omega arith)))

        pub old_before : (item : ℕ) → AreKnown q tape facts (λ a. take item (delayed_keys q tape a f n)) → AreKnown q tape facts (λ a. take item (carried q tape a (f - d) (writer_of n) 0))
        old_before item first a all k h = first a all k (subst (λ keys. IsIn k (take item keys)) (sym (old_keys a all)) h)

        pub old_after : (item : ℕ) → AreKnown q tape facts (λ a. take item (carried q tape a (f - d) (writer_of n) 0)) → AreKnown q tape facts (λ a. take item (delayed_keys q tape a f n))
        old_after item first a all k h = first a all k (subst (λ keys. IsIn k (take item keys)) (old_keys a all) h)

        pub old_known : AreKnown q tape facts (λ a. carried q tape a (f - d) (writer_of n) 0) → AreKnown q tape facts (λ a. delayed_needs q tape a f n)
        old_known more = delayed_known q tape facts f n stands (λ a all k h. more a all k (subst (IsIn k) (old_keys a all) h))

        pub old_missing : (k : Key) → IsMissing q tape facts (λ a. carried q tape a (f - d) (writer_of n) 0) k → IsMissing q tape facts (λ a. delayed_needs q tape a f n) k
        old_missing k missing =
            delayed_missing q tape facts f n k
            (record { needed = λ a all. subst (IsIn k) (sym (old_keys a all)) (missing.needed a all); absent = missing.absent; key = missing.key })
