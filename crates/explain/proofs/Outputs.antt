-- Two accounts that have in common what an output needs.
use Rattle.std.proofs.Common.{ℕ, suc, ℤ, pos, ◌≡◌, ◌+◌, ◌-◌, ◌/◌, ◌<◌, ◌≤◌, List, [], ◌∷◌, ◌++◌, Bool, true, false, Option, Some, None, inl, inr, refl, sym, ◌∙◌, ap, ap₂, subst, arith}
use Rattle.std.specs.Prelude.{if◌then◌else◌, nat_lt, ◌&&◌, max}
use Rattle.wa_base.specs.declared.graph_names.End.{End}
use Rattle.wa_base.specs.declared.graph_names.ParamName.TheVariants as param
use Rattle.law_base.specs.Members.{IsIn}
use Rattle.law_base.proofs.Members.{IsIn-append_first, IsIn-append_second}
use Rattle.mix_rules.specs.Mixing.{mix}
use Rattle.node_table.specs.Curves.{shaper_value}
use Rattle.node_table.specs.Delays.{frames_of}
use Rattle.node_table.specs.Kinds.{row, outputs, is_delay_kind}
use Rattle.node_table.specs.declared.kinds.Kind.{Kind}
use Rattle.node_table.specs.declared.kinds.Kind.TheVariants.{Shaper, Causal}
use Rattle.node_table.specs.declared.rows.Keeps.{Keeps}
use Rattle.node_table.specs.declared.rows.Keeps.TheVariants.{Nothing, Heard, Written}
use Rattle.node_table.specs.declared.rows.ParamRow.{ParamRow}
use Rattle.node_table.specs.declared.rows.Plays.{Plays}
use Rattle.node_table.specs.declared.rows.Plays.TheVariants.{Value, Content}
use Rattle.conn_graph.specs.Ends.{writer_of, reader_of, ends, in_cycle, muted}
use Rattle.meaning.specs.declared.world.World.{World}
use Rattle.meaning.specs.Lists.{since}
use Rattle.meaning.specs.World.{node_at, kind_of, sounds_at}
use Rattle.meaning.specs.Worlds.{IsRegular}
use Rattle.meaning.specs.Values.{Frame, seen, input_value, delay_frames, delayed, taken_from, made_of, causal_value, level_of, value_by_row, value_by_kind, equation, world_at}
use Rattle.meaning.proofs.Joined.{joined_in}
use Rattle.meaning.proofs.Seeing.{plain_end, reader_end}
use Rattle.explain.specs.declared.facts.Key.{Key}
use Rattle.explain.specs.declared.facts.Key.TheVariants.{Count, Inlet, Par, Hist}
use Rattle.explain.specs.Accounts.{Account, result_of, frame_in, frames_in, heard_in, value_in}
use Rattle.explain.specs.Facts.{has_history}
use Rattle.explain.specs.Needs.{carried, delayed_needs, level_needs, row_needs, output_by_kind, output_needs}
use Rattle.explain.proofs.Agreeing.{Alike, AllAlike, same_value, same_count, same_mix, same_carried, seen_is}
use Rattle.explain.proofs.Hearing.{taken, birth_at, heard_is, shaper_newest}

-- how many frames a delay lasts, by an account
abbrev lasting : ℕ → List World → Account → ℕ → ℕ → ℕ
lasting q tape x f n = delay_frames q f (frames_in q tape x f) (frame_in q tape x f) n

module _ (q : ℕ) (tape : List World) (a b : Account) (f n : ℕ) where
  abbrev w : World
  w = world_at q tape f

  abbrev time : Key
  time = Par f (record { 0 = n }) param.DelayTime

  same_lasting : Alike q tape a b time → lasting q tape a f n ≡ lasting q tape b f n
  same_lasting alike = ap (λ v. let frames = frames_of v w.spec.rate in if in_cycle w.graph.value n then max q frames else frames) (same_value q tape a b time alike)

  -- what is needed of the writer, where the delay was born then
  abbrev before_needs : Account → ℕ → Bool → List Key
  before_needs x d t = if t then [] else carried q tape x (f - d) (writer_of n) 0

  same_delayed_needs : AllAlike q tape a b (delayed_needs q tape b f n) → delayed_needs q tape a f n ≡ delayed_needs q tape b f n
  same_delayed_needs all =
      ap (λ d. time ∷ before_needs a d (nat_lt f ((node_at w n).attrs.birth + d))) (same_lasting (all time (inl refl)))
      ∙ ap (λ keys. time ∷ keys) (by_birth (nat_lt f ((node_at w n).attrs.birth + lasting q tape b f n)) (λ k h. all k (inr h)))
    where
      by_birth : (t : Bool) → AllAlike q tape a b (before_needs b (lasting q tape b f n) t) → before_needs a (lasting q tape b f n) t ≡ before_needs b (lasting q tape b f n) t
      by_birth true all = refl
      by_birth false all = same_carried q tape a b (f - lasting q tape b f n) (writer_of n) 0 all

  same_delayed : (c : ℕ) → a.counts (f / q) (reader_of n) ≡ b.counts (f / q) (reader_of n) → AllAlike q tape a b (delayed_needs q tape b f n)
      → delayed q f (frames_in q tape a f) (frame_in q tape a f) n c ≡ delayed q f (frames_in q tape b f) (frame_in q tape b f) n c
  same_delayed c own all =
      ap (λ k. if nat_lt f ((node_at w n).attrs.birth + k) then pos 0 else mixed a k) (same_lasting (all time (inl refl)))
      ∙ by_birth (nat_lt f ((node_at w n).attrs.birth + d)) (λ k h. all k (inr h))
    where
      d : ℕ
      d = lasting q tape b f n

      of_frame : Account → Frame → ℤ
      of_frame x y = mix (node_at w n).attrs.interp (y.counts (writer_of n)) (x.counts (f / q) (reader_of n)) (y.values (writer_of n) 0) c

      mixed : Account → ℕ → ℤ
      mixed x k = of_frame x (seen f (frames_in q tape x f) (frame_in q tape x f) (f - k))

      by_birth : (t : Bool) → AllAlike q tape a b (before_needs b d t) → (if t then pos 0 else mixed a d) ≡ (if t then pos 0 else mixed b d)
      by_birth true all = refl
      by_birth false all =
          ap (of_frame a) (seen_is q tape a f (f - d) (omega arith))
          ∙ same_mix q tape a b (f - d) (writer_of n) 0 all (node_at w n).attrs.interp (a.counts (f / q) (reader_of n)) c
          ∙ ap (λ to. mix (node_at w n).attrs.interp (b.counts ((f - d) / q) (writer_of n)) to (b.values (f - d) (writer_of n) 0) c) own
          ∙ sym (ap (of_frame b) (seen_is q tape b f (f - d) (omega arith)))

-- a shaper's history is its curve at what it takes in now
shaper_history : (q : ℕ) (tape : List World) (x : Account) (f n c : ℕ) (curve : Option (List ℤ)) → birth_at q tape f n ≤ f → shaper_value curve (heard_in q tape x f n c) ≡ shaper_value curve (taken q tape x n c f ∷ [])
shaper_history q tape x f n c curve born =
    ap (shaper_value curve) (heard_is q tape x f n c ∙ ap (since (taken q tape x n c) (birth_at q tape f n)) (let long : f + 1 - birth_at q tape f n ≡ suc (f - birth_at q tape f n) = omega (arith, born) in long))
    ∙ shaper_newest curve _ _
    ∙ ap (λ g. shaper_value curve (taken q tape x n c g ∷ [])) (let here : birth_at q tape f n + (f - birth_at q tape f n) ≡ f = omega (arith, born) in here)

module _ (q : ℕ) (some : 0 < q) (tape : List World) (regular : IsRegular q tape) (a b : Account) (f : ℕ) (e : End) (o c : ℕ) (is_end : IsIn e (ends (world_at q tape f).graph.value))
    (born : birth_at q tape f e.node.0 ≤ f) where
  abbrev v : World
  v = world_at q tape f

  abbrev of_kind : Account → Kind → ℤ
  of_kind x k = value_by_kind q f (frames_in q tape x f) (frame_in q tape x f) k e o c

  abbrev own : Key
  own = Count (f / q) e o

  -- where a node is not muted, it takes in its input
  takes_in : (x : Account) → is_delay_kind (kind_of v e.node.0) ≡ false → muted v.graph.value e ≡ false → taken q tape x e.node.0 c f ≡ input_value (frame_in q tape x f) e.node.0 0 c
  takes_in x plain quiet =
      ap (λ t. if t then pos 0 else input_value (frame_in q tape x f) e.node.0 0 c)
      (ap (muted v.graph.value) (sym (plain_end v (joined_in tape regular.valid (f / q)) e is_end plain)) ∙ quiet)

  -- a node that keeps nothing and has a history is a shaper
  shaped : (x : Account) (k : Kind) (level : ℤ) → kind_of v e.node.0 ≡ k → has_history k ≡ true → (row k).keeps ≡ Nothing → muted v.graph.value e ≡ false
      → value_in q tape x (Hist f e.node c) ≡ made_of k (input_value (frame_in q tape x f) e.node.0 (taken_from k o c).0 (taken_from k o c).1) level
  shaped x (Shaper curve was_set) level is history nothing quiet =
      ap (λ k. result_of k (heard_in q tape x f e.node.0 c)) is
      ∙ shaper_history q tape x f e.node.0 c curve born
      ∙ ap (λ y. shaper_value curve (y ∷ [])) (takes_in x (ap is_delay_kind is) quiet)
  shaped x other level is history nothing quiet = absurd cc

  abbrev level_in : Account → Option ParamRow → ℤ
  level_in x param = level_of q f (frames_in q tape x f) (frame_in q tape x f) e.node.0 param

  same_level : (param : Option ParamRow) → AllAlike q tape a b (level_needs q tape b f e.node param) → level_in a param ≡ level_in b param
  same_level None all = refl
  same_level (Some row) all = same_value q tape a b (Par f e.node row.name) (all (Par f e.node row.name) (inl refl))

  -- what a causal node puts out is what its history says
  result_is : (k : Kind) (frames : List ℤ) → (row k).keeps ≡ Heard → result_of k frames ≡ causal_value k frames
  result_is (Causal equation) frames heard = refl
  result_is other frames heard = absurd cc

  heard_alike : (k : Kind) → kind_of v e.node.0 ≡ k → (row k).keeps ≡ Heard → Alike q tape a b (Hist f e.node c) → causal_value k (heard_in q tape a f e.node.0 c) ≡ causal_value k (heard_in q tape b f e.node.0 c)
  heard_alike k is heard alike = sym (of_history a) ∙ same_value q tape a b (Hist f e.node c) alike ∙ of_history b
    where
      of_history : (x : Account) → value_in q tape x (Hist f e.node c) ≡ causal_value k (heard_in q tape x f e.node.0 c)
      of_history x = ap (λ k. result_of k (heard_in q tape x f e.node.0 c)) is ∙ result_is k (heard_in q tape x f e.node.0 c) heard

  by_end : (t : Bool) → e.writer ≡ t → AllAlike q tape a b (own ∷ (if t then Inlet f e 0 c ∷ [] else delayed_needs q tape b f e.node.0))
      → (if t then input_value (frame_in q tape a f) e.node.0 0 c else delayed q f (frames_in q tape a f) (frame_in q tape a f) e.node.0 c)
      ≡ (if t then input_value (frame_in q tape b f) e.node.0 0 c else delayed q f (frames_in q tape b f) (frame_in q tape b f) e.node.0 c)
  by_end true writer all = same_value q tape a b (Inlet f e 0 c) (all (Inlet f e 0 c) (inr (inl refl)))
  by_end false reader all =
      same_delayed q tape a b f e.node.0 c (subst (λ d. a.counts (f / q) d ≡ b.counts (f / q) d) (reader_end e reader) (same_count q tape a b (f / q) e o (all own (inl refl)))) (λ k h. all k (inr h))

  by_kind : (k : Kind) → kind_of v e.node.0 ≡ k → muted v.graph.value e ≡ false → AllAlike q tape a b (own ∷ output_by_kind q tape b f e o c k) → of_kind a k ≡ of_kind b k
  by_kind k is quiet all = by_row (row k).keeps (row k).plays refl all
    where
      key : Key
      key = Inlet f e (taken_from k o c).0 (taken_from k o c).1

      by_history : (t : Bool) → has_history k ≡ t → (row k).keeps ≡ Nothing
          → AllAlike q tape a b (own ∷ (if t then Hist f e.node c ∷ [] else level_needs q tape b f e.node (row k).param ++ key ∷ []))
          → made_of k (value_in q tape a key) (level_in a (row k).param) ≡ made_of k (value_in q tape b key) (level_in b (row k).param)
      by_history true history nothing all =
          sym (shaped a k (level_in a (row k).param) is history nothing quiet)
          ∙ same_value q tape a b (Hist f e.node c) (all (Hist f e.node c) (inr (inl refl)))
          ∙ shaped b k (level_in b (row k).param) is history nothing quiet
      by_history false history nothing all =
          let levels : List Key = level_needs q tape b f e.node (row k).param in
          ap₂ (made_of k) (same_value q tape a b key (all key (inr (IsIn-append_second levels (key ∷ []) key (inl refl))))) (same_level (row k).param (λ x h. all x (inr (IsIn-append_first levels (key ∷ []) x h))))

      by_sound : (t : Bool) → AllAlike q tape a b (own ∷ (if t then level_needs q tape b f e.node (row k).param else []))
          → (if t then level_in a (row k).param else pos 0) ≡ (if t then level_in b (row k).param else pos 0)
      by_sound true all = same_level (row k).param (λ x h. all x (inr h))
      by_sound false all = refl

      by_row : (keeps : Keeps) (plays : Option Plays) → (row k).keeps ≡ keeps → AllAlike q tape a b (own ∷ row_needs q tape b f e o c keeps plays k)
          → value_by_row q f (frames_in q tape a f) (frame_in q tape a f) keeps plays k e o c ≡ value_by_row q f (frames_in q tape b f) (frame_in q tape b f) keeps plays k e o c
      by_row Nothing None are all = by_history (has_history k) refl are all
      by_row Nothing (Some Value) are all = by_sound (sounds_at v e.node.0 f) all
      by_row Nothing (Some (Content rate)) are all = refl
      by_row Heard plays are all = heard_alike k is are (all (Hist f e.node c) (inr (inl refl)))
      by_row (Written frames) plays are all = by_end e.writer refl all

  pub same_output : AllAlike q tape a b (output_needs q tape b f e o c) → equation q f (frames_in q tape a f) (frame_in q tape a f) e o c ≡ equation q f (frames_in q tape b f) (frame_in q tape b f) e o c
  unfolding equation
  same_output all = by_muted (muted v.graph.value e) refl all
    where
      given : Account → Bool → ℤ
      given x t = if nat_lt o (outputs (kind_of v e.node.0)) && t then of_kind x (kind_of v e.node.0) else pos 0

      by_output : (s t : Bool) → muted v.graph.value e ≡ false → AllAlike q tape a b (own ∷ (if t then output_by_kind q tape b f e o c (kind_of v e.node.0) else []))
          → (if s && t then of_kind a (kind_of v e.node.0) else pos 0) ≡ (if s && t then of_kind b (kind_of v e.node.0) else pos 0)
      by_output true true quiet all = by_kind (kind_of v e.node.0) refl quiet all
      by_output true false quiet all = refl
      by_output false t quiet all = refl

      by_muted : (t : Bool) → muted v.graph.value e ≡ t
          → AllAlike q tape a b (if t then [] else own ∷ (if nat_lt c (b.counts (f / q) e) then output_by_kind q tape b f e o c (kind_of v e.node.0) else []))
          → (if t then pos 0 else given a (nat_lt c (a.counts (f / q) e))) ≡ (if t then pos 0 else given b (nat_lt c (b.counts (f / q) e)))
      by_muted true is all = refl
      by_muted false quiet all =
          ap (λ n. given a (nat_lt c n)) (same_count q tape a b (f / q) e o (all own (inl refl)))
          ∙ by_output (nat_lt o (outputs (kind_of v e.node.0))) (nat_lt c (b.counts (f / q) e)) quiet all

  kind_needs : (k : Kind) → AllAlike q tape a b (output_by_kind q tape b f e o c k) → output_by_kind q tape a f e o c k ≡ output_by_kind q tape b f e o c k
  kind_needs k all = by_row (row k).keeps (row k).plays all
    where
      by_writer : (t : Bool) → AllAlike q tape a b (if t then Inlet f e 0 c ∷ [] else delayed_needs q tape b f e.node.0)
          → (if t then Inlet f e 0 c ∷ [] else delayed_needs q tape a f e.node.0) ≡ (if t then Inlet f e 0 c ∷ [] else delayed_needs q tape b f e.node.0)
      by_writer true all = refl
      by_writer false all = same_delayed_needs q tape a b f e.node.0 all

      same_level_needs : (param : Option ParamRow) → level_needs q tape a f e.node param ≡ level_needs q tape b f e.node param
      same_level_needs None = refl
      same_level_needs (Some row) = refl

      by_row : (keeps : Keeps) (plays : Option Plays) → AllAlike q tape a b (row_needs q tape b f e o c keeps plays k) → row_needs q tape a f e o c keeps plays k ≡ row_needs q tape b f e o c keeps plays k
      by_row Nothing None all = ap (λ keys. if has_history k then Hist f e.node c ∷ [] else keys ++ Inlet f e (taken_from k o c).0 (taken_from k o c).1 ∷ []) (same_level_needs (row k).param)
      by_row Nothing (Some Value) all = ap (λ keys. if sounds_at v e.node.0 f then keys else []) (same_level_needs (row k).param)
      by_row Nothing (Some (Content rate)) all = refl
      by_row Heard plays all = refl
      by_row (Written frames) plays all = by_writer e.writer all

  pub same_output_needs : AllAlike q tape a b (output_needs q tape b f e o c) → output_needs q tape a f e o c ≡ output_needs q tape b f e o c
  same_output_needs all = by_muted (muted v.graph.value e) all
    where
      kind : Kind
      kind = kind_of v e.node.0

      by_channel : (t : Bool) → AllAlike q tape a b (if t then output_by_kind q tape b f e o c kind else []) → (if t then output_by_kind q tape a f e o c kind else []) ≡ (if t then output_by_kind q tape b f e o c kind else [])
      by_channel true all = kind_needs kind all
      by_channel false all = refl

      by_muted : (t : Bool) → AllAlike q tape a b (if t then [] else own ∷ (if nat_lt c (b.counts (f / q) e) then output_by_kind q tape b f e o c kind else []))
          → (if t then [] else own ∷ (if nat_lt c (a.counts (f / q) e) then output_by_kind q tape a f e o c kind else []))
          ≡ (if t then [] else own ∷ (if nat_lt c (b.counts (f / q) e) then output_by_kind q tape b f e o c kind else []))
      by_muted true all = refl
      by_muted false all =
          ap (λ n. own ∷ (if nat_lt c n then output_by_kind q tape a f e o c kind else [])) (same_count q tape a b (f / q) e o (all own (inl refl)))
          ∙ ap (λ keys. own ∷ keys) (by_channel (nat_lt c (b.counts (f / q) e)) (λ k h. all k (inr h)))
