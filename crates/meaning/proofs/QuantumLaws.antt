-- The laws of one quantum, for the world that comes after a tape.
use Rattle.std.proofs.Common.{ℕ, pos, ◌≡◌, ◌+◌, ◌*◌, ◌<◌, length, List, [], ◌∷◌, ◌++◌, true, false, refl, sym, subst}
use Rattle.wa_base.specs.declared.graph_names.End.{End}
use Rattle.law_base.specs.Members.{IsIn}
use Rattle.conn_graph.specs.Ends.{ends, input_end, arrow, muted}
use Rattle.meaning.specs.declared.world.World.{World}
use Rattle.meaning.specs.World.{sounding}
use Rattle.meaning.specs.Validity.{IsJoined}
use Rattle.meaning.specs.Counts.{Counts, world_in, count_rule, count, counts_before}
use Rattle.meaning.specs.Values.{silence, taken_in, frame, value}
use Rattle.meaning.specs.Blocks.{Drafts, drafted, block}
use Rattle.meaning.proofs.Seeing.{AgreeFor}
use Rattle.meaning.proofs.CountLaws.{SameBefore, count_gives, muted_count}
use Rattle.meaning.proofs.BlockLaws as blocks
use Rattle.meaning.proofs.OrderLaws.{IsKnown}
use Rattle.meaning.proofs.TapeLaws.{world_after}

-- the ends that are known have their values in a quantum of a tape
abbrev pub AreRight : ℕ → List World → ℕ → World → Drafts → List End → Type 0
AreRight q tape j w drafts done = (m : ℕ) → m < q → (d : End) → IsIn d (ends w.graph.value) → IsKnown w.graph.value done d → drafts m d ≡ value q tape (q * j + m) d

abbrev pub HasCounts : ℕ → List World → ℕ → World → Counts → Type 0
HasCounts q tape j w counts = (d : End) → IsIn d (ends w.graph.value) → counts d ≡ count q tape j d

-- the unmuted ends with an arrow to an end are done
abbrev pub HasSources : World → List End → End → Type 0
HasSources w done e = (d : End) → IsIn d (ends w.graph.value) → muted w.graph.value d ≡ false → arrow w.graph.value d e ≡ true → IsIn d done

module _ (q : ℕ) (some : 0 < q) (w : World) (joined : IsJoined (sounding w)) (tape : List World) where
  abbrev longer : List World
  longer = tape ++ w ∷ []

  abbrev j : ℕ
  j = length tape

  there : world_in longer j ≡ sounding w
  there = world_after tape w j refl

  -- Where the blocks of all ends with an arrow to e are right, the block of e is.
  pub block_right : (counts : Counts) → HasCounts q longer j w counts → (drafts : Drafts) (done : List End) → AreRight q longer j w drafts done → (e : End) → IsIn e (ends w.graph.value)
      → HasSources w done e → (m : ℕ) → m < q → block q (frame q longer) (q * j) (sounding w) counts drafts e m ≡ value q longer (q * j + m) e
  block_right = subst (λ x. (counts : Counts) → HasCounts q longer j x counts → (drafts : Drafts) (done : List End) → AreRight q longer j x drafts done → (e : End) → IsIn e (ends x.graph.value)
      → HasSources x done e → (m : ℕ) → m < q → block q (frame q longer) (q * j) x counts drafts e m ≡ value q longer (q * j + m) e)
      there (λ counts counted drafts done right e is sources m l. blocks.block_right q some longer j (subst IsJoined (sym there) joined) counts counted drafts done right e is sources m l)

  -- What an end's node takes in is right, where the blocks of all ends with an arrow to it are.
  pub taken_right : (counts : Counts) → HasCounts q longer j w counts → (drafts : Drafts) (done : List End) → AreRight q longer j w drafts done → (e : End) → IsIn e (ends w.graph.value)
      → e ≡ input_end w.graph.value e.node.0 → HasSources w done e → (m : ℕ) → m < q → (c : ℕ) → taken_in (drafted (sounding w) counts (drafts m)) e.node.0 c ≡ taken_in (frame q longer (q * j + m)) e.node.0 c
  taken_right = subst (λ x. (counts : Counts) → HasCounts q longer j x counts → (drafts : Drafts) (done : List End) → AreRight q longer j x drafts done → (e : End) → IsIn e (ends x.graph.value)
      → e ≡ input_end x.graph.value e.node.0 → HasSources x done e → (m : ℕ) → m < q → (c : ℕ) → taken_in (drafted x counts (drafts m)) e.node.0 c ≡ taken_in (frame q longer (q * j + m)) e.node.0 c)
      there (λ counts counted drafts done right e is plain sources m l c. blocks.taken_right q some longer j (subst IsJoined (sym there) joined) counts counted drafts done right e is plain sources m l c)

  -- a muted one takes in nothing
  pub taken_muted : (n : ℕ) → muted w.graph.value (input_end w.graph.value n) ≡ true → (m : ℕ) → m < q → (c : ℕ) → taken_in (frame q longer (q * j + m)) n c ≡ pos 0
  taken_muted = subst (λ x. (n : ℕ) → muted x.graph.value (input_end x.graph.value n) ≡ true → (m : ℕ) → m < q → (c : ℕ) → taken_in (frame q longer (q * j + m)) n c ≡ pos 0)
      there (λ n is m l c. blocks.taken_muted q some longer j (subst IsJoined (sym there) joined) (count q longer j) (λ d in_d. refl) n is m l c)

  -- before anything is made, the muted ends are right
  pub muted_right : AreRight q longer j w (λ m. silence) []
  muted_right = subst (λ x. AreRight q longer j x (λ m. silence) []) there
      (blocks.muted_right q some longer j (subst IsJoined (sym there) joined) (count q longer j) (λ d in_d. refl))

  -- The rule gives an end's count, wherever the ends that it sees have theirs, and the quanta before too.
  pub count_right : (past : ℕ → Counts) → SameBefore q (sounding w) j past (counts_before q longer j) → (counts : Counts) (e : End) → IsIn e (ends w.graph.value) → AgreeFor w e counts (count q longer j)
      → count_rule q (sounding w) j past counts e ≡ count q longer j e
  count_right = subst (λ x. (past : ℕ → Counts) → SameBefore q x j past (counts_before q longer j) → (counts : Counts) (e : End) → IsIn e (ends x.graph.value) → AgreeFor x e counts (count q longer j)
      → count_rule q x j past counts e ≡ count q longer j e)
      there (λ past before counts e is agree. count_gives q longer j (subst IsJoined (sym there) joined) past before counts e is agree)

  -- a muted end has one channel
  pub muted_one : (e : End) → IsIn e (ends w.graph.value) → muted w.graph.value e ≡ true → count q longer j e ≡ 1
  muted_one = subst (λ x. (e : End) → IsIn e (ends x.graph.value) → muted x.graph.value e ≡ true → count q longer j e ≡ 1)
      there (λ e is m. muted_count q longer j (subst IsJoined (sym there) joined) e is m)
