-- Every value is a Fix.
use Rattle.std.proofs.Common.{ℕ, zero, suc, ◌+◌, ◌-◌, ◌*◌, ◌/◌, ◌+ℤ◌, ◌-ℤ◌, ◌≡◌, ◌<◌, ◌≤◌, ◌==◌, ◌⊎◌, inl, inr, refl, ap, length, ℤ, pos, negsuc, List, [], ◌∷◌, take, drop, All, Bool, true, false, Option, None, Some, slice_index_or, subst, sym, arith}
use Rattle.std.proofs.lemmas.Bool.Decides.{nat_tests}
use Rattle.std.proofs.lemmas.Int.{ints}
use Rattle.std.proofs.lemmas.List.Elements.{All-head, All-tail, All-nil}
use Rattle.std.specs.Prelude.{if◌then◌else◌, nat_lt, nat_le, slice_get, IfSome}
use Rattle.std.specs.Option.{option_map_or}
use Rattle.wa_base.specs.Numbers.{IsFix, sat}
use Rattle.wa_base.specs.declared.graph_names.BufId.{BufId}
use Rattle.wa_base.specs.declared.graph_names.End.{End}
use Rattle.wa_base.specs.declared.graph_names.ParamId.{ParamId}
use Rattle.law_base.proofs.SchemeLaws.{moment-zero}
use Rattle.node_table.specs.Curves.{on_way, curve_at}
use Rattle.node_table.specs.Filters.{dot, quotient, filtered, filter_value}
use Rattle.node_table.specs.declared.equation.Equation.{Equation}
use Rattle.node_table.specs.declared.equation.Equation.TheVariants.{Filter, Convolution, Processor}
use Rattle.node_table.specs.Equations.{equation_value}
use Rattle.node_table.specs.Frames.{item}
use Rattle.node_table.proofs.Programs.{program_fix}
use Rattle.node_table.proofs.Shares.{between_fix}
use Rattle.buffer_store.specs.declared.buffers.Buffer.{Buffer}
use Rattle.buffer_store.specs.Buffers.{channel_of}
use Rattle.sched_source.specs.declared.content.Content.{Content}
use Rattle.sched_source.specs.Playback.{position}
use Rattle.sched_source.specs.Schedule.{plays_at, sample_at}
use Rattle.mix_rules.specs.Mixing.{mix}
use Rattle.node_table.specs.declared.rows.Keeps.{Keeps}
use Rattle.node_table.specs.declared.rows.Keeps.TheVariants.{Nothing, Heard, Written}
use Rattle.node_table.specs.declared.rows.ParamRow.{ParamRow}
use Rattle.node_table.specs.declared.rows.Plays.{Plays}
use Rattle.node_table.specs.declared.rows.Plays.TheVariants as plays
use Rattle.node_table.specs.Rows.{is_written}
use Rattle.node_table.specs.declared.rows.Range.{Range}
use Rattle.node_table.specs.declared.rows.Range.TheVariants.{Any, UpTo}
use Rattle.node_table.specs.Kinds.{row, is_delay_kind, IsInLimits}
use Rattle.node_table.proofs.NodeLists.{IsRange, is_row}
use Rattle.node_table.specs.declared.kinds.Kind.{Kind}
use Rattle.node_table.specs.declared.kinds.Kind.TheVariants.{Gain, Shaper, Causal}
use Rattle.node_table.specs.declared.nodes.Node.{Node}
use Rattle.conn_graph.specs.Ends.{writer_of, reader_of, input_end, height, muted}
use Rattle.meaning.specs.declared.world.World.{World}
use Rattle.meaning.specs.declared.scheds.Play.{Play}
use Rattle.meaning.specs.World.{node_at, kind_of, param_id, up_to, in_range, nominal, sounds_at, find_play, samples_in, played_at}
use Rattle.meaning.specs.Lists.{since}
use Rattle.meaning.specs.Validity.{IsValid}
use Rattle.meaning.specs.Counts.{world_in, input_channels, count}
use Rattle.meaning.specs.Laws.{HasFixes, HasFixPoints}
use Rattle.meaning.specs.Values.{Frame, Values, no_frame, seen, input_value, taken_in, frames_heard, computed_value, delay_frames, delayed, taken_from, made_of, causal_value, level_of, value_by_row, value_by_kind, has_channel, equation, value_scheme, world_at, known_at, value_at, value, frame, frames_before, frame_at}
use Rattle.meaning.proofs.Asking.{asked_count, delay_long}
use Rattle.meaning.proofs.Joined.{joined_in}
use Rattle.meaning.proofs.MixedUp.{mix_fix}
use Rattle.meaning.proofs.NodeKinds.{limits_there}
use Rattle.meaning.proofs.Seeing.{reader_end}
use Rattle.meaning.proofs.ValueLaws.{value_suc}

sat_fix : (x : ℤ) → IsFix (sat x)
sat_fix (pos n) = omega (arith, ints)
sat_fix (negsuc n) = omega (arith, ints)

zero_fix : IsFix (pos 0)
zero_fix = omega arith

either_fix : (b : Bool) (x y : ℤ) → IsFix x → IsFix y → IsFix (if b then x else y)
either_fix true x y left right = left
either_fix false x y left right = right

input_fix : (x : Frame) (n i c : ℕ) → IsFix (input_value x n i c)
unfolding input_value
input_fix x n i c = either_fix (nat_lt c (input_channels x.world x.counts n i)) _ (pos 0) (sat_fix _) zero_fix

up_to_fix : (most x : ℤ) → IsFix most → IsFix (up_to most x)
up_to_fix (pos most) (pos x) is = omega (arith, ints)
up_to_fix (pos most) (negsuc x) is = zero_fix
up_to_fix (negsuc most) x is = zero_fix

nominal_fix : (kind : Kind) (x : ℤ) → IsInLimits kind → IsFix (nominal kind x)
nominal_fix kind x fine = by_param (row kind).param (is_row kind fine).range
  where
    by_range : (range : Range) → IsRange range → IsFix (in_range range x)
    by_range Any is = sat_fix x
    by_range (UpTo most) is = up_to_fix most x is

    by_param : (param : Option ParamRow) → IfSome param (λ p. IsRange p.range) → IsFix (option_map_or (λ p. in_range p.range x) param (pos 0))
    by_param None is = zero_fix
    by_param (Some p) is = by_range p.range is

computed_fix : (q f : ℕ) (past : ℕ → Frame) (here : Frame) (id : ParamId) → IsInLimits (kind_of here.world id.node.0) → IsFix (computed_value q f past here id)
unfolding computed_value
computed_fix q f past here id fine = nominal_fix (kind_of here.world id.node.0) _ fine

-- ---- the points of curves, and the samples of buffers

abbrev AreFixesAt : List ℤ → Type 0
AreFixesAt xs = (i : ℕ) → IsFix (slice_index_or xs i (pos 0))

all_at : (xs : List ℤ) → All IsFix xs → AreFixesAt xs
all_at [] all i = zero_fix
all_at (x ∷ xs) all zero = All-head IsFix x xs all
all_at (x ∷ xs) all (suc i) = all_at xs (All-tail IsFix x xs all) i

take_at : (n : ℕ) (xs : List ℤ) → AreFixesAt xs → AreFixesAt (take n xs)
take_at zero xs at i = zero_fix
take_at (suc n) [] at i = zero_fix
take_at (suc n) (x ∷ xs) at zero = at zero
take_at (suc n) (x ∷ xs) at (suc i) = take_at n xs (λ j. at (suc j)) i

drop_at : (n : ℕ) (xs : List ℤ) → AreFixesAt xs → AreFixesAt (drop n xs)
drop_at zero xs at i = at i
drop_at (suc n) [] at i = zero_fix
drop_at (suc n) (x ∷ xs) at i = drop_at n xs (λ j. at (suc j)) i

way_fix : (curve : List ℤ) (p : ℕ) → AreFixesAt curve → IsFix (on_way curve p)
way_fix curve p at = between_fix (item curve (p / 33554432)) (item curve (p / 33554432 + 1)) (p - p / 33554432 * 33554432) (at (p / 33554432)) (at (p / 33554432 + 1)) (omega arith)

curve_fix : (curve : List ℤ) (x : ℤ) → AreFixesAt curve → IsFix (curve_at curve x)
curve_fix curve (negsuc n) at = at 0
curve_fix curve (pos x) at = either_fix (nat_le x 0) _ _ (at 0) (either_fix (nat_le 33554432 x) _ _ (at (length curve - 1)) (way_fix curve ((length curve - 1) * x) at))

abbrev IsSampled : Buffer → Type 0
IsSampled b = All IsFix b.samples

channel_fix : (store : List Buffer) (i channel : ℕ) → All IsSampled store → AreFixesAt (option_map_or (λ (b : Buffer). channel_of b channel) (slice_get store i) [])
channel_fix [] i channel all = λ k. zero_fix
channel_fix (b ∷ bs) zero channel all = take_at b.shape.frames (drop (channel * b.shape.frames) b.samples) (drop_at (channel * b.shape.frames) b.samples (all_at b.samples (All-head IsSampled b bs all)))
channel_fix (b ∷ bs) (suc i) channel all = channel_fix bs i channel (All-tail IsSampled b bs all)

samples_fix : (store : List Buffer) (buffer : Option BufId) (channel : ℕ) → All IsSampled store → AreFixesAt (samples_in store buffer channel)
samples_fix store None channel all = λ i. zero_fix
samples_fix store (Some buffer) channel all = channel_fix store buffer.0 channel all

sample_fix : (content : Option Content) (start : Option ℕ) (channel : List ℤ) (f : ℕ) → AreFixesAt channel → IsFix (sample_at content start channel f)
sample_fix (Some content) (Some start) channel f at = at (position content (f - start))
sample_fix (Some content) None channel f at = zero_fix
sample_fix None start channel f at = zero_fix

found_fix : (play : Play → ℤ) (found : Option Play) → ((p : Play) → IsFix (play p)) → IsFix (option_map_or play found (pos 0))
found_fix play None each = zero_fix
found_fix play (Some p) each = each p

played_fix : (w : World) (node c f : ℕ) → HasFixes w → IsFix (played_at w node c f)
played_fix w node c f fixes = found_fix _ (find_play w.scheds.items node) (λ p.
    either_fix (plays_at p.sched f) _ (pos 0) (sample_fix p.sched.content p.sched.start (samples_in w.store p.buffer c) f (samples_fix w.store p.buffer c fixes.samples)) zero_fix)

-- ---- the outputs of causal nodes

quotient_fix : (sum divisor : ℤ) → IsFix (quotient sum divisor)
quotient_fix sum (pos d) = sat_fix _
quotient_fix sum (negsuc d) = sat_fix _

filter_fix : (forward back frames : List ℤ) → IsFix (filter_value forward back frames)
filter_fix forward back [] = zero_fix
filter_fix forward back (x ∷ xs) = quotient_fix (dot forward (x ∷ xs) -ℤ dot (drop 1 back) (filtered forward back xs)) (item back 0)

-- what a node has heard
since_fix : (at : ℕ → ℤ) (birth n : ℕ) → ((g : ℕ) → IsFix (at g)) → AreFixesAt (since at birth n)
since_fix at birth zero each i = zero_fix
since_fix at birth (suc n) each zero = each (birth + n)
since_fix at birth (suc n) each (suc i) = since_fix at birth n each i

taken_fix : (x : Frame) (n c : ℕ) → IsFix (taken_in x n c)
taken_fix x n c = either_fix (muted x.world.graph.value (input_end x.world.graph.value n)) (pos 0) _ zero_fix (input_fix x n 0 c)

heard_fix : (f : ℕ) (past : ℕ → Frame) (here : Frame) (n c : ℕ) → AreFixesAt (frames_heard f past here n c)
heard_fix f past here n c = since_fix _ _ _ (λ g. taken_fix (seen f past here g) n c)

causal_fix : (equation : Equation) (frames : List ℤ) → HasFixPoints (Causal equation) → AreFixesAt frames → IsFix (equation_value equation frames)
causal_fix (Filter forward back) frames points heard = filter_fix forward back frames
causal_fix (Convolution response) frames points heard = sat_fix _
causal_fix (Processor program) frames points heard = program_fix program frames points heard

-- ---- each end

-- what a frame has at the first output of the writer of a delay
abbrev WriterIsFixed : Frame → ℕ → Type 0
WriterIsFixed x n = (c : ℕ) → IsFix (x.values (writer_of n) 0 c)

-- what is known of what the reader of a delay asks for: its writer had no more channels then, and carried Fixes
abbrev AsksFixes : ℕ → ℕ → (ℕ → Frame) → Frame → ℕ → Type 0
AsksFixes q f past here n = (node_at here.world n).attrs.birth + delay_frames q f past here n ≤ f
    → (let x = seen f past here (f - delay_frames q f past here n) in (x.counts (writer_of n) ≤ here.counts (reader_of n)) × WriterIsFixed x n)

delayed_fix : (q f : ℕ) (past : ℕ → Frame) (here : Frame) (n c : ℕ) → AsksFixes q f past here n → IsFix (delayed q f past here n c)
delayed_fix q f past here n c asked = by_birth (nat_lt f (node.attrs.birth + d)) refl
  where
    node : Node
    node = node_at here.world n

    d : ℕ
    d = delay_frames q f past here n

    x : Frame
    x = seen f past here (f - d)

    by_birth : (b : Bool) → nat_lt f (node.attrs.birth + d) ≡ b → IsFix (if b then pos 0 else mix node.attrs.interp (x.counts (writer_of n)) (here.counts (reader_of n)) (x.values (writer_of n) 0) c)
    by_birth true unborn = zero_fix
    by_birth false born =
        let there = asked (grind (arith, nat_tests)) in
        mix_fix (x.values (writer_of n) 0) there.1 node.attrs.interp (x.counts (writer_of n)) (here.counts (reader_of n)) c there.0

-- what a node makes of a Fix
made_fix : (kind : Kind) → HasFixPoints kind → (value level : ℤ) → IsFix value → IsFix (made_of kind value level)
made_fix (Gain gain) points value level fix = sat_fix _
made_fix (Shaper None was_set) points value level fix = fix
made_fix (Shaper (Some curve) was_set) points value level fix = curve_fix curve (value +ℤ pos 16777216) (all_at curve points)
made_fix other points value level fix = fix

-- and of all the Fixes that it heard
causal_value_fix : (kind : Kind) → HasFixPoints kind → (frames : List ℤ) → AreFixesAt frames → IsFix (causal_value kind frames)
causal_value_fix (Causal equation) points frames heard = causal_fix equation frames points heard
causal_value_fix other points frames heard = zero_fix

kind_fix : (q f : ℕ) (past : ℕ → Frame) (here : Frame) → HasFixes here.world → (kind : Kind) → HasFixPoints kind → (e : End) → IsInLimits (kind_of here.world e.node.0)
    → (is_delay_kind kind ≡ true → e.writer ≡ false → AsksFixes q f past here e.node.0) → (o c : ℕ) → IsFix (value_by_kind q f past here kind e o c)
kind_fix q f past here fixes kind points e fine asks o c = by_row (row kind).keeps (row kind).plays refl
  where
    level_fix : (param : Option ParamRow) → IsFix (level_of q f past here e.node.0 param)
    level_fix None = zero_fix
    level_fix (Some row) = computed_fix q f past here (param_id e.node.0 row.name) fine

    by_end : is_delay_kind kind ≡ true → (b : Bool) → e.writer ≡ b → IsFix (if b then input_value here e.node.0 0 c else delayed q f past here e.node.0 c)
    by_end delay true writer = input_fix here e.node.0 0 c
    by_end delay false reader = delayed_fix q f past here e.node.0 c (asks delay reader)

    by_row : (keeps : Keeps) (plays : Option Plays) → (row kind).keeps ≡ keeps → IsFix (value_by_row q f past here keeps plays kind e o c)
    by_row Nothing None are = made_fix kind points _ _ (input_fix here e.node.0 (taken_from kind o c).0 (taken_from kind o c).1)
    by_row Nothing (Some plays.Value) are = either_fix (sounds_at here.world e.node.0 f) _ (pos 0) (level_fix (row kind).param) zero_fix
    by_row Nothing (Some (plays.Content rate)) are = played_fix here.world e.node.0 c f fixes
    by_row Heard plays are = causal_value_fix kind points (frames_heard f past here e.node.0 c) (heard_fix f past here e.node.0 c)
    by_row (Written frames) plays are = by_end (ap is_written are) e.writer refl

equation_fix : (q f : ℕ) (past : ℕ → Frame) (here : Frame) → HasFixes here.world → (e : End) → IsInLimits (kind_of here.world e.node.0)
    → (is_delay_kind (kind_of here.world e.node.0) ≡ true → e.writer ≡ false → muted here.world.graph.value e ≡ false → AsksFixes q f past here e.node.0) → (o c : ℕ) → IsFix (equation q f past here e o c)
unfolding equation
equation_fix q f past here fixes e fine asks o c = by_muted (muted here.world.graph.value e) refl
  where
    by_muted : (b : Bool) → muted here.world.graph.value e ≡ b → IsFix (if b then pos 0 else if has_channel here.world here.counts e o c then value_by_kind q f past here (kind_of here.world e.node.0) e o c else pos 0)
    by_muted true silent = zero_fix
    by_muted false heard =
        either_fix (has_channel here.world here.counts e o c) _ (pos 0)
        (kind_fix q f past here fixes (kind_of here.world e.node.0) (fixes.points e.node.0) e fine (λ delay reader. asks delay reader heard) o c) zero_fix

-- so are those of every world of a tape, and of the one past its end
fixes_in : (tape : List World) (j : ℕ) → All HasFixes tape → HasFixes (world_in tape j)
fixes_in [] j all = record { samples = All-nil IsSampled; points = λ i. tt }
fixes_in (w ∷ ws) zero all = let fixes = All-head HasFixes w ws all in record { samples = fixes.samples; points = fixes.points }
fixes_in (w ∷ ws) (suc j) all = fixes_in ws j (All-tail HasFixes w ws all)

-- what its nodes were created with is not refused
limits_in : (tape : List World) (j : ℕ) → All IsValid tape → (i : ℕ) → IsInLimits (kind_of (world_in tape j) i)
limits_in [] j all i = refl
limits_in (w ∷ ws) zero all i = limits_there w (All-head IsValid w ws all) i
limits_in (w ∷ ws) (suc j) all i = limits_in ws j (All-tail IsValid w ws all) i

module _ (q : ℕ) (some : 0 < q) (tape : List World) (valid : All IsValid tape) (fixes : All HasFixes tape) where
  abbrev AreFixes : ℕ → Values → Type 0
  AreFixes f values = (e : End) (o c : ℕ) → IsFix (values e o c)

  -- what the reader of a delay sees, where the frames before are Fixes and those of this frame one height below
  asks_fixes : (f h : ℕ) → ((g : ℕ) → g < f → AreFixes g (value q tape g)) → AreFixes f (value_at q tape f h) → (n : ℕ) → is_delay_kind (kind_of (world_at q tape f) n) ≡ true
      → muted (world_at q tape f).graph.value (reader_of n) ≡ false → AsksFixes q f (frames_before q tape f) (frame_at q tape f h) n
  asks_fixes f h earlier below n delay heard born = by_now (g == f) refl
    where
      d : ℕ
      d = delay_frames q f (frames_before q tape f) (frame_at q tape f h) n

      g : ℕ
      g = f - d

      few : count q tape (g / q) (writer_of n) ≤ count q tape (f / q) (reader_of n)
      few = asked_count q some tape f (joined_in tape valid (f / q)) n d delay heard (delay_long q f (frames_before q tape f) (frame_at q tape f h) n) born

      Asked : Frame → Type 0
      Asked x = (x.counts (writer_of n) ≤ count q tape (f / q) (reader_of n)) × WriterIsFixed x n

      by_now : (b : Bool) → (g == f) ≡ b → Asked (if b then frame_at q tape f h else frames_before q tape f g)
      by_now true now =
          let same : g ≡ f = grind (arith, nat_tests) in
          (subst (λ k. count q tape (k / q) (writer_of n) ≤ count q tape (f / q) (reader_of n)) same few, (λ c. below (writer_of n) 0 c))
      by_now false other =
          let old : g < f = grind (arith, nat_tests) in
          let there : frames_before q tape f g ≡ frame q tape g = ap (λ b. if b then frame q tape g else no_frame) (let l : nat_lt g f ≡ true = grind (arith, nat_tests) in l) in
          subst Asked (sym there) (few, (λ c. earlier g old (writer_of n) 0 c))

  height_fix : (f : ℕ) → ((g : ℕ) → g < f → AreFixes g (value q tape g)) → (h : ℕ) → AreFixes f (value_at q tape f h)
  unfolding value_at
  height_fix f earlier zero e o c = subst (λ (v : Values). IsFix (v e o c)) (sym (moment-zero (value_scheme q) (known_at q tape) f)) zero_fix
  height_fix f earlier (suc h) e o c =
      subst (λ (v : Values). IsFix (v e o c)) (sym (value_suc q tape f h))
      (equation_fix q f (frames_before q tape f) (frame_at q tape f h) (fixes_in tape (f / q) fixes) e (limits_in tape (f / q) valid e.node.0)
      (λ delay reader heard. asks_fixes f h earlier (height_fix f earlier h) e.node.0 delay (subst (λ x. muted (world_at q tape f).graph.value x ≡ false) (reader_end e reader) heard)) o c)

  full_fix : (f : ℕ) → ((g : ℕ) → g < f → AreFixes g (value q tape g)) → AreFixes f (value q tape f)
  unfolding value
  full_fix f earlier e o c = height_fix f earlier (height (world_at q tape f).graph.value) e o c

  below_fix : (f g : ℕ) → g < f → AreFixes g (value q tape g)
  below_fix zero g l = absurd (omega arith)
  below_fix (suc f) g l = elim (before_or_last f g l) [
    | inl before ↦ below_fix f g before
    | inr last ↦ subst (λ k. AreFixes k (value q tape k)) (sym last) (full_fix f (below_fix f))
  ]
    where
      before_or_last : (f g : ℕ) → g < suc f → (g < f) ⊎ (g ≡ f)
      before_or_last f g l = grind arith

  pub value_fix : (f : ℕ) → AreFixes f (value q tape f)
  value_fix f = below_fix (suc f) f (omega arith)
