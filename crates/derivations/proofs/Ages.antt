-- What a history reads of each frame since the birth of its node, by the world that is in force.
use Rattle.std.proofs.Common.{ℕ, ◌≡◌, ◌+◌, ◌-◌, ◌/◌, ◌<◌, ◌≤◌, min, length, List, [], true, sym, ◌∙◌, ap, ap₂, subst, arith}
use Rattle.node_table.specs.declared.kinds.Kind.{Kind}
use Rattle.meaning.specs.declared.world.World.{World}
use Rattle.meaning.specs.World.{sounding, node_at, kind_of}
use Rattle.meaning.specs.Values.{world_at}
use Rattle.meaning.proofs.Successors.{div-le-div}
use Rattle.explain.specs.declared.facts.Fact.{Fact}
use Rattle.explain.specs.Accounts.{Account}
use Rattle.explain.specs.Facts.{has_history}
use Rattle.derivations.specs.declared.tape.Stretch.{Stretch}
use Rattle.derivations.specs.Groups.{read_keys, history_group}
use Rattle.derivations.specs.Reaches.{reach_of}
use Rattle.derivations.specs.Searches.{IsReady}
use Rattle.derivations.specs.Stretches.{IsInForce}
use Rattle.derivations.proofs.Filing.{got_low}
use Rattle.derivations.proofs.Remembering.{history_at, history_rest}
use Rattle.derivations.proofs.Staying.{HasHistory, history_since, born_by}
use Rattle.derivations.proofs.Worlds.{world_is}

module _ (q : ℕ) (tape : List World) (facts : List Fact) (ready : IsReady q tape facts) (f n c : ℕ) (s : Stretch) (force : IsInForce tape (f / q) s)
    (node : n < length (world_at q tape f).nodes) (history : has_history (kind_of (world_at q tape f) n) ≡ true)
    (kind : Kind) (kind_is : kind_of s.piece.world n ≡ kind) (birth : ℕ) (birth_is : (node_at s.piece.world n).attrs.birth ≡ birth) where
  is : world_at q tape f ≡ sounding s.piece.world
  is = world_is tape (f / q) s.piece.world force.there

  short : f / q < length tape
  short = got_low tape (f / q) s.piece.world force.there

  kind_there : kind_of (world_at q tape f) n ≡ kind
  kind_there = ap (λ (w : World). kind_of w n) is ∙ kind_is

  birth_there : (node_at (world_at q tape f) n).attrs.birth ≡ birth
  birth_there = ap (λ (w : World). (node_at w n).attrs.birth) is ∙ birth_is

  pub born : birth ≤ f
  born = subst (λ k. k ≤ f) birth_there (born_by q ready.some tape ready.regular f n short node)

  module _ (ago : ℕ) (young : ago < f + 1 - birth) where
    pub then_frame : (f - ago) / q < length tape
    then_frame = let l = div-le-div (f - ago) f q ready.some (omega arith) in let m = short in omega (arith, l, m)

    pub then_history : HasHistory q ready.some tape ready.regular (f - ago) n
    then_history =
        history_since q ready.some tape ready.regular f n short (record { node = node; history = history }) (f - ago) (omega arith)
        (subst (λ k. k ≤ f - ago) (sym birth_there) (omega arith))

    pub group_then : (a : Account) → read_keys q tape a (f - ago) n c kind ago ≡ history_group q tape a f n c ago
    group_then a =
        sym (history_at q tape a f n c ago (subst (λ k. ago < f + 1 - k) (sym birth_there) young) ∙ ap (λ k. read_keys q tape a (f - ago) n c k ago) kind_there)

  pub rest_none : (end : ℕ) → end ≡ min (reach_of kind) (f + 1 - birth) → (a : Account) (ago : ℕ) → end ≤ ago → history_group q tape a f n c ago ≡ []
  rest_none end last a ago l = history_rest q tape a f n c end (last ∙ ap₂ (λ k b. min (reach_of k) (f + 1 - b)) (sym kind_there) (sym birth_there)) ago l
