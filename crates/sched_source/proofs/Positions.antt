-- The positions of a content, and that all that is played lies in its buffer.
use Rattle.std.proofs.Common.{ℕ, ℤ, pos, negsuc, ◌≡◌, ◌+◌, ◌-◌, ◌*◌, ◌%◌, ◌<◌, ◌≤◌, Bool, true, false, cond, refl, ap, sym, subst, ◌∙◌, arith, ◌⊎◌, inl, inr, Option, Some, None, min, ◌&&◌, not, IsTrue}
use Rattle.std.specs.Prelude.{nat_lt, int_lt, unsigned_abs, option_map}
use Rattle.std.specs.Int.{div_ceil, is_negative, is_positive}
use Rattle.std.specs.Option.{option_map_or}
use Rattle.std.proofs.lemmas.Bool.Decides.{nat_tests}
use Rattle.std.proofs.lemmas.Nat.{mul-le}
use Rattle.std.proofs.lemmas.Grind.{div_ceil_times}
use Rattle.sched_source.specs.declared.content.Content.{Content}
use Rattle.sched_source.specs.Playback.{has_points, loop_start, loop_end, is_looping, first_position, wrapped, position, IsPlayable}
use Rattle.sched_source.specs.Drawing.{around}
use Rattle.sched_source.specs.Schedule.{is_between, earliest, content_end, later_end}
use Rattle.sched_source.proofs.Rounds.{order, wrapped_step, wrapped_inside, wrapped_from, wrapped_within, wrapped_around}

pub either : (b : Bool) → (b ≡ true) ⊎ (b ≡ false)
either true = inl refl
either false = inr refl

-- ---- numbers of frames

pub div_ceil_le : (m rate : ℕ) → 1 ≤ rate → div_ceil m rate ≤ m
div_ceil_le m rate some = elim (order (div_ceil m rate) m) [
  | inl l ↦ l
  | inr h ↦
      let bounds = div_ceil_times m rate (omega arith) in
      let more = mul-le (m + 1) rate (div_ceil m rate) rate (omega arith) (omega arith) in
      let times = mul-le m 1 m rate (omega arith) some in
      absurd (omega (arith, bounds.1, more, times))
]

-- at rate 1 the frames are the buffer's
pub div_ceil_one : (m : ℕ) → div_ceil m 1 ≡ m
div_ceil_one m = let bounds = div_ceil_times m 1 (omega arith) in omega (arith, bounds.0, bounds.1)

-- a frame that is played, of so much of the buffer, lies inside it
pub frames_inside : (m rate n : ℕ) → 1 ≤ rate → n < div_ceil m rate → n * rate < m
frames_inside m rate n some l =
    let bounds = div_ceil_times m rate (omega arith) in
    let more = mul-le (n + 1) rate (div_ceil m rate) rate (omega arith) (omega arith) in
    omega (arith, bounds.1, more)

pub frames_past : (m rate : ℕ) → 1 ≤ rate → m ≤ div_ceil m rate * rate
frames_past m rate some = let bounds = div_ceil_times m rate (omega arith) in bounds.0

pub frames_some : (m rate : ℕ) → 1 ≤ rate → 0 < m → 0 < div_ceil m rate
frames_some m rate some more = elim (order (div_ceil m rate) 0) [
  | inl none ↦
      let past = frames_past m rate some in
      let times = mul-le (div_ceil m rate) rate 0 rate none (omega arith) in
      absurd (omega (arith, past, times))
  | inr l ↦ l
]

-- ---- the loop

ends_in_order : (first end : ℤ) (length : ℕ) → not (is_negative first) && (is_positive end && (int_lt first end && nat_lt (unsigned_abs first) length)) ≡ true
    → (unsigned_abs first < unsigned_abs end) × (unsigned_abs first < length)
ends_in_order (pos a) (pos b) length h = grind (arith, nat_tests)
ends_in_order (pos a) (negsuc b) length h = grind (arith, nat_tests)
ends_in_order (negsuc a) end length h = grind (arith, nat_tests)

loop_has : (b : Bool) (first end length : ℕ) → (b ≡ true → (first < end) × (first < length)) → 0 < length → cond b first 0 < cond b (min end length) length
loop_has true first end length h some = let l = h refl in omega (arith, l.0, l.1)
loop_has false first end length h some = some

length_some : (on : Bool) (length : ℕ) → on && nat_lt 0 length ≡ true → 0 < length
length_some true length h = grind (arith, nat_tests)
length_some false length h = grind (arith, nat_tests)

points_order : (content : Content) → has_points content ≡ true → (unsigned_abs content.points.first < unsigned_abs content.points.end) × (unsigned_abs content.points.first < content.length)
unfolding has_points
points_order content h = ends_in_order content.points.first content.points.end content.length h

pub loop_order : (content : Content) → is_looping content ≡ true → loop_start content < loop_end content
unfolding loop_start loop_end
loop_order content on =
    loop_has (has_points content) (unsigned_abs content.points.first) (unsigned_abs content.points.end) content.length (points_order content) (length_some content.points.on content.length on)

least_within : (b : Bool) (end length : ℕ) → cond b (min end length) length ≤ length
least_within true end length = omega arith
least_within false end length = omega arith

pub loop_within : (content : Content) → loop_end content ≤ content.length
unfolding loop_end
loop_within content = least_within (has_points content) (unsigned_abs content.points.end) content.length

-- ---- positions

pub position_looping : (content : Content) (n : ℕ) → is_looping content ≡ true
    → position content n ≡ wrapped (loop_start content) (loop_end content) (first_position content + n * content.rate)
unfolding position
position_looping content n on =
    let p = first_position content + n * content.rate in
    ap (λ b. cond b (wrapped (loop_start content) (loop_end content) p) p) on

pub position_straight : (content : Content) (n : ℕ) → is_looping content ≡ false → position content n ≡ first_position content + n * content.rate
unfolding position
position_straight content n off =
    let p = first_position content + n * content.rate in
    ap (λ b. cond b (wrapped (loop_start content) (loop_end content) p) p) off

moved_on : (p n k rate : ℕ) → p + (n + k) * rate ≡ p + n * rate + k * rate
moved_on p n k rate = omega arith

-- so many frames further on
pub position_on : (content : Content) (n k : ℕ) → is_looping content ≡ true
    → position content (n + k) ≡ wrapped (loop_start content) (loop_end content) (position content n + k * content.rate)
position_on content n k on =
    let low = loop_start content in
    let high = loop_end content in
    let p = first_position content + n * content.rate in
    position_looping content (n + k) on
    ∙ ap (wrapped low high) (moved_on (first_position content) n k content.rate)
    ∙ sym (wrapped_step low high p (k * content.rate) (loop_order content on))
    ∙ ap (λ q. wrapped low high (q + k * content.rate)) (sym (position_looping content n on))

pub straight_on : (content : Content) (n k : ℕ) → is_looping content ≡ false → position content (n + k) ≡ position content n + k * content.rate
straight_on content n k off =
    position_straight content (n + k) off ∙ moved_on (first_position content) n k content.rate ∙ ap (λ q. q + k * content.rate) (sym (position_straight content n off))

pub position_inside : (content : Content) (n : ℕ) → is_looping content ≡ true → position content n < loop_end content
position_inside content n on =
    subst (λ q. q < loop_end content) (sym (position_looping content n on))
    (wrapped_inside (loop_start content) (loop_end content) (first_position content + n * content.rate) (loop_order content on))

-- before the end it goes straight on
pub before_end : (content : Content) (n k : ℕ) → is_looping content ≡ true → position content n + k * content.rate < loop_end content
    → position content (n + k) ≡ position content n + k * content.rate
before_end content n k on within = position_on content n k on ∙ wrapped_within (loop_start content) (loop_end content) (position content n + k * content.rate) within

-- past the end it is in the loop
pub past_end : (content : Content) (n k : ℕ) → is_looping content ≡ true → loop_end content ≤ position content n + k * content.rate
    → loop_start content ≤ position content (n + k)
past_end content n k on past =
    subst (λ q. loop_start content ≤ q) (sym (position_on content n k on))
    (wrapped_from (loop_start content) (loop_end content) (position content n + k * content.rate) past)

-- and from there it goes around
pub goes_around : (content : Content) (n k : ℕ) → is_looping content ≡ true → loop_start content ≤ position content n
    → position content (n + k) ≡ around (loop_start content) (loop_end content) (position content n) (content.rate % (loop_end content - loop_start content)) k
goes_around content n k on from =
    position_on content n k on
    ∙ wrapped_around (loop_start content) (loop_end content) (position content n) content.rate k from (position_inside content n on)

-- ---- what is played lies in the buffer

ends_before : (end : ℕ) (other : Option ℕ) (start frame : ℕ) → IsTrue (is_between (Some start) (earliest (Some end) other) frame) → (start ≤ frame) × (frame < end)
ends_before end None start frame h = grind (arith, nat_tests)
ends_before end (Some other) start frame h = grind (arith, nat_tests)

ends_straight : (b : Bool) (duration : Option ℕ) (left rate start frame : ℕ) (other : Option ℕ) → b ≡ false
    → IsTrue (is_between (Some start) (earliest (option_map (λ frames. start + frames) (option_map (λ frames. div_ceil frames rate) (cond b duration (Some left)))) other) frame)
    → (start ≤ frame) × (frame < start + div_ceil left rate)
ends_straight true duration left rate start frame other off h = cc
ends_straight false duration left rate start frame other off h = ends_before (start + div_ceil left rate) other start frame h

least_left : (duration : Option ℕ) (left : ℕ) → option_map_or (min left) duration left ≤ left
least_left None left = omega arith
least_left (Some duration) left = omega arith

inside_straight : (first length left rate n : ℕ) → 1 ≤ rate → left ≤ length - first → n < div_ceil left rate → first + n * rate < length
inside_straight first length left rate n some short l = let inside = frames_inside left rate n some l in omega (arith, inside)

pub played_inside : (content : Content) (start : ℕ) (stop : Option ℕ) (frame : ℕ) → IsPlayable content
    → IsTrue (is_between (Some start) (earliest (content_end (Some content) (Some start)) (later_end (Some start) stop)) frame)
    → position content (frame - start) < content.length
played_inside content start stop frame playable h = elim (either (is_looping content)) [
  | inl on ↦ let inside = position_inside content (frame - start) on in let within = loop_within content in omega (arith, inside, within)
  | inr off ↦
      let first = first_position content in
      let left = option_map_or (min (content.length - first)) content.duration (content.length - first) in
      let spans = ends_straight (is_looping content) content.duration left content.rate start frame (later_end (Some start) stop) off h in
      let few : frame - start < div_ceil left content.rate = omega (arith, spans.0, spans.1) in
      subst (λ q. q < content.length) (sym (position_straight content (frame - start) off))
      (inside_straight first content.length left content.rate (frame - start) playable.rate (least_left content.duration (content.length - first)) few)
]
