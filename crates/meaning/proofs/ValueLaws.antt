-- Values settle, and solve their equations.
use Rattle.std.proofs.Common.{ℕ, pos, suc, ◌≡◌, ◌/◌, ◌<◌, ◌≤◌, length, List, Bool, true, false, refl, sym, ◌∙◌, ap, arith}
use mathlib.Core.Path.{fun_ext}
use Rattle.std.specs.Prelude.{if◌then◌else◌, nat_lt}
use Rattle.std.proofs.lemmas.Bool.Decides.{nat_tests}
use Rattle.wa_base.specs.declared.graph_names.End.{End}
use Rattle.law_base.specs.Members.{IsIn}
use Rattle.law_base.specs.Reaching.{reaches}
use Rattle.law_base.specs.Heights.{at_moment, before, state}
use Rattle.law_base.proofs.Reaching.{direct, further, up_to}
use Rattle.law_base.proofs.HeightLaws.{settled}
use Rattle.law_base.proofs.SchemeLaws.{before_is, before_none, moment-suc}
use Rattle.conn_graph.specs.Ends.{ends, arrow, height, muted}
use Rattle.meaning.specs.declared.world.World.{World}
use Rattle.meaning.specs.Validity.{IsJoined}
use Rattle.meaning.specs.Counts.{Counts, count}
use Rattle.meaning.specs.Values.{Frame, Values, silence, no_frame, equation, value_scheme, world_at, known_at, value_at, value, frame, frames_before, frame_at}
use Rattle.meaning.proofs.Seeing.{AgreeFor, LikeFor, SeesFor, equation_sees}

module _ (q : ℕ) (some : 0 < q) (w : World) (counts : Counts) (joined : IsJoined w) (f : ℕ) (past : ℕ → Frame) where
  abbrev here : Values → Frame
  here s = record { world = w; counts = counts; values = s }

  -- an end's equation sees only the ends from which an arrow leads to it
  pub value_local : (e : End) (s t : Values) → IsIn e (ends w.graph.value) → AgreeFor w e s t → equation q f past (here s) e ≡ equation q f past (here t) e
  value_local e s t h agree =
      let sees : SeesFor q f w e past past = record { recent = λ g low high. LikeFor.same refl; delays = λ g is low high. (refl, refl); heard = λ g c is low high. refl } in
      equation_sees q some w joined f past past e h sees counts counts refl (λ d in_d a. refl) s t agree

  pub value_quiet : (e : End) (n : ℕ) → n ≤ length (ends w.graph.value) → reaches (arrow w.graph.value) (ends w.graph.value) n e e ≡ true → (s : Values)
      → equation q f past (here s) e ≡ (λ o c. pos 0)
  unfolding equation muted height
  value_quiet e n l r s = fun_ext (λ o. fun_ext (λ c. rw (up_to (arrow w.graph.value) (ends w.graph.value) n _ e e l r) refl))

module _ (q : ℕ) (tape : List World) where
  -- from the number of ends on, every height gives the value
  pub value_settled : 0 < q → (f : ℕ) → IsJoined (world_at q tape f) → (h : ℕ) → height (world_at q tape f).graph.value ≤ h
      → (e : End) → IsIn e (ends (world_at q tape f).graph.value) → value_at q tape f h e ≡ value q tape f e
  unfolding value height value_at at_moment
  value_settled some f joined h low e is =
      let w : World = world_at q tape f in
      let counts : Counts = count q tape (f / q) in
      let earlier : ℕ → Frame = before (value_scheme q) (known_at q tape) f in
      settled (ends w.graph.value) (λ a b. arrow w.graph.value a b ≡ true) (λ n a b. reaches (arrow w.graph.value) (ends w.graph.value) n a b ≡ true)
      (direct _ _) (further _ _) silence (λ s. equation q f earlier (record { world = w; counts = counts; values = s }))
      (value_local q some w counts joined f earlier) (value_quiet q some w counts joined f earlier) h low e is

  -- the recursion's own past is the frames before
  before_frames : (f : ℕ) → before (value_scheme q) (known_at q tape) f ≡ frames_before q tape f
  unfolding value value_at state
  before_frames f = fun_ext (λ g. by_test g (nat_lt g f) refl)
    where
      by_test : (g : ℕ) (b : Bool) → nat_lt g f ≡ b → before (value_scheme q) (known_at q tape) f g ≡ (if b then frame q tape g else no_frame)
      by_test g true l = before_is (value_scheme q) (known_at q tape) f g (grind (arith, nat_tests))
      by_test g false l = before_none (value_scheme q) (known_at q tape) f g (grind (arith, nat_tests))

  -- one height up
  pub value_suc : (f h : ℕ) → value_at q tape f (suc h) ≡ equation q f (frames_before q tape f) (frame_at q tape f h)
  unfolding value_at
  value_suc f h = moment-suc (value_scheme q) (known_at q tape) f h ∙ ap (λ past. equation q f past (frame_at q tape f h)) (before_frames f)

  -- at full height the values of a frame solve its equations
  pub value_solves : 0 < q → (f : ℕ) → IsJoined (world_at q tape f) → (e : End) → IsIn e (ends (world_at q tape f).graph.value)
      → equation q f (frames_before q tape f) (frame q tape f) e ≡ value q tape f e
  unfolding value
  value_solves some f joined e is =
      ap (λ (values : Values). values e) (sym (value_suc f (height (world_at q tape f).graph.value)))
      ∙ value_settled some f joined (suc (height (world_at q tape f).graph.value)) (omega arith) e is

  -- a muted end is silent
  pub muted_value : 0 < q → (f : ℕ) → IsJoined (world_at q tape f) → (e : End) → IsIn e (ends (world_at q tape f).graph.value)
      → muted (world_at q tape f).graph.value e ≡ true → value q tape f e ≡ (λ o c. pos 0)
  unfolding muted height
  muted_value some f joined e is m =
      let w : World = world_at q tape f in
      sym (value_solves some f joined e is)
      ∙ value_quiet q some w (count q tape (f / q)) joined f (frames_before q tape f) e (length (ends w.graph.value)) (omega arith) m (value q tape f)

  -- An equation gives the value, wherever the ends that it sees have theirs.
  pub equation_gives : 0 < q → (f : ℕ) → IsJoined (world_at q tape f) → (s : Values) (e : End) → IsIn e (ends (world_at q tape f).graph.value)
      → AgreeFor (world_at q tape f) e s (value q tape f)
      → equation q f (frames_before q tape f) (record { world = world_at q tape f; counts = count q tape (f / q); values = s }) e ≡ value q tape f e
  equation_gives some f joined s e is agree =
      value_local q some (world_at q tape f) (count q tape (f / q)) joined f (frames_before q tape f) e s (value q tape f) is agree ∙ value_solves some f joined e is
