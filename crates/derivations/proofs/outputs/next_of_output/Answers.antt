use Rattle.std.proofs.Common.{ℕ, ◌≡◌, ◌/◌, ◌<◌, List, take, true, false, sym, ◌∙◌, ap, subst, arith}
use Rattle.wa_base.specs.declared.graph_names.End.{End}
use Rattle.node_table.specs.declared.kinds.Kind.{Kind}
use Rattle.conn_graph.specs.Ends.{muted}
use Rattle.meaning.specs.declared.world.World.{World}
use Rattle.meaning.specs.World.{kind_of}
use Rattle.meaning.specs.Values.{world_at}
use Rattle.explain.specs.declared.facts.Key.{Key}
use Rattle.explain.specs.declared.facts.Key.TheVariants.{Count}
use Rattle.explain.specs.declared.facts.Fact.{Fact}
use Rattle.explain.specs.Accounts.{Account}
use Rattle.explain.specs.Checked.{AllHold, Stands}
use Rattle.derivations.specs.declared.tape.Stretch.{Stretch}
use Rattle.derivations.specs.Contexts.{tape_in}
use Rattle.derivations.specs.Groups.{output_group, delay_keys}
use Rattle.derivations.specs.Searches.{AreKnown, IsMissingIn}
use Rattle.derivations.proofs.Answering.{none_as, some_as, on_some_as}
use Rattle.derivations.proofs.Leading.{none_needed}
use Rattle.derivations.proofs.Making.{end_in}
use Rattle.derivations.proofs.Tails.{muted_none, count_missing, count_enough, channel_known, channel_missing, tail_at, tail_past}
use Rattle.derivations.proofs.Worlds.{world_is}
use Rattle.derivations.proofs.outputs.next_of_output.Goals as goal

pub piece_at-stretch-requires : goal.piece_at-stretch-requires
piece_at-stretch-requires c = record { ready = c.requires.ready; frame = c.requires.there }

pub is_muted-requires-clause-marks : goal.is_muted-requires-clause-marks
is_muted-requires-clause-marks c = c.piece_at-stretch.ensures.marks

pub count-requires : goal.count-requires
count-requires c = c.requires.ready

pub returns-in_default-clause-after : goal.returns-in_default-clause-after
returns-in_default-clause-after c = c.requires.before

pub next_by_kind-missing-requires-clause-ready : goal.next_by_kind-missing-requires-clause-ready
next_by_kind-missing-requires-clause-ready c = c.requires.ready

pub next_by_kind-missing-requires-clause-there : goal.next_by_kind-missing-requires-clause-there
next_by_kind-missing-requires-clause-there c = c.requires.there

pub next_by_kind-missing-requires-clause-piece : goal.next_by_kind-missing-requires-clause-piece
next_by_kind-missing-requires-clause-piece c = c.piece_at-stretch.ensures

pub next_by_kind-missing-requires-clause-before : goal.next_by_kind-missing-requires-clause-before
next_by_kind-missing-requires-clause-before c =
    let q : ℕ = c.args.context.quantum in
    let tape : List World = tape_in c.args.context in
    let facts : List Fact = c.args.context.known.now in
    let f : ℕ = c.args.frame in
    let e : End = c.args.end in
    let o : ℕ = c.args.output in
    let s : Stretch = c.piece_at-stretch.result.now in
    let w : World = s.piece.world in
    let quantum : f / c.from.result ≡ f / q = ap (λ k. f / k) c.from.ensures in
    let heard : muted (world_at q tape f).graph.value e ≡ false = ap (λ (x : World). muted x.graph.value e) (world_is tape (f / q) w c.piece_at-stretch.ensures.there) ∙ sym c.is_muted.ensures ∙ c.if-is_muted.false in
    let is : (a : Account) → AllHold q tape a facts → a.counts (f / q) e ≡ c.in-Some.count =
    subst (λ j. (a : Account) → AllHold q tape a facts → a.counts j e ≡ c.in-Some.count) quantum c.in-Some.ensures.value in
    let kind : Kind = kind_of w e.node.0 in
    let same : kind_of (world_at q tape f) e.node.0 ≡ kind = ap (λ (x : World). kind_of x e.node.0) (world_is tape (f / q) w c.piece_at-stretch.ensures.there) in
    let low : (a : Account) → AllHold q tape a facts → c.args.channel < a.counts (f / q) e = λ a all. subst (λ k. c.args.channel < k) (sym (is a all)) c.if-channel-count.false in
    subst (λ i. AreKnown q tape facts (λ a. take i (delay_keys q tape a f e kind))) (sym c.items_of_first-item.ensures)
    (tail_at q tape facts f e o c.args.channel heard kind same low c.args.place.now c.requires.before)

pub is_muted-requires-clause-end : goal.is_muted-requires-clause-end
is_muted-requires-clause-end c =
    let q : ℕ = c.args.context.quantum in
    let tape : List World = tape_in c.args.context in
    let facts : List Fact = c.args.context.known.now in
    let f : ℕ = c.args.frame in
    let e : End = c.args.end in
    let o : ℕ = c.args.output in
    let s : Stretch = c.piece_at-stretch.result.now in
    let w : World = s.piece.world in
    end_in q tape facts c.requires.ready f e o c.args.channel c.requires.there s c.piece_at-stretch.ensures c.requires.output

pub returns-then-is_muted-clause-none : goal.returns-then-is_muted-clause-none
returns-then-is_muted-clause-none c =
    let q : ℕ = c.args.context.quantum in
    let tape : List World = tape_in c.args.context in
    let facts : List Fact = c.args.context.known.now in
    let f : ℕ = c.args.frame in
    let e : End = c.args.end in
    let o : ℕ = c.args.output in
    let s : Stretch = c.piece_at-stretch.result.now in
    let w : World = s.piece.world in
    let heard : muted (world_at q tape f).graph.value e ≡ true = ap (λ (x : World). muted x.graph.value e) (world_is tape (f / q) w c.piece_at-stretch.ensures.there) ∙ sym c.is_muted.ensures ∙ c.if-is_muted.true in
    let groups : Account → ℕ → List Key = λ a. output_group q tape a f e o c.args.channel in
    none_needed q tape facts groups (muted_none q tape facts f e o c.args.channel heard)

pub returns-in_default-clause-some : goal.returns-in_default-clause-some
returns-in_default-clause-some c =
    let q : ℕ = c.args.context.quantum in
    let tape : List World = tape_in c.args.context in
    let facts : List Fact = c.args.context.known.now in
    let f : ℕ = c.args.frame in
    let e : End = c.args.end in
    let o : ℕ = c.args.output in
    let s : Stretch = c.piece_at-stretch.result.now in
    let w : World = s.piece.world in
    let quantum : f / c.from.result ≡ f / q = ap (λ k. f / k) c.from.ensures in
    let heard : muted (world_at q tape f).graph.value e ≡ false = ap (λ (x : World). muted x.graph.value e) (world_is tape (f / q) w c.piece_at-stretch.ensures.there) ∙ sym c.is_muted.ensures ∙ c.if-is_muted.false in
    let groups : Account → ℕ → List Key = λ a. output_group q tape a f e o c.args.channel in
    subst (λ j. IsMissingIn q tape facts groups (Count j e o)) (sym quantum)
    (count_missing q tape facts f e o c.args.channel heard c.requires.there c.requires.output (subst (λ j. Stands (Count j e o) facts → ⊥) quantum c.in_default.ensures.none))

pub returns-then-channel-count-clause-none : goal.returns-then-channel-count-clause-none
returns-then-channel-count-clause-none c =
    let q : ℕ = c.args.context.quantum in
    let tape : List World = tape_in c.args.context in
    let facts : List Fact = c.args.context.known.now in
    let f : ℕ = c.args.frame in
    let e : End = c.args.end in
    let o : ℕ = c.args.output in
    let s : Stretch = c.piece_at-stretch.result.now in
    let w : World = s.piece.world in
    let quantum : f / c.from.result ≡ f / q = ap (λ k. f / k) c.from.ensures in
    let heard : muted (world_at q tape f).graph.value e ≡ false = ap (λ (x : World). muted x.graph.value e) (world_is tape (f / q) w c.piece_at-stretch.ensures.there) ∙ sym c.is_muted.ensures ∙ c.if-is_muted.false in
    let is : (a : Account) → AllHold q tape a facts → a.counts (f / q) e ≡ c.in-Some.count =
    subst (λ j. (a : Account) → AllHold q tape a facts → a.counts j e ≡ c.in-Some.count) quantum c.in-Some.ensures.value in
    let stands : Stands (Count (f / q) e o) facts = subst (λ j. Stands (Count j e o) facts) quantum c.in-Some.ensures.stands in
    count_enough q tape facts f e o c.args.channel heard c.in-Some.count is c.if-channel-count.true stands

pub next_by_kind-missing-requires-clause-sample : goal.next_by_kind-missing-requires-clause-sample
next_by_kind-missing-requires-clause-sample c =
    let q : ℕ = c.args.context.quantum in
    let tape : List World = tape_in c.args.context in
    let facts : List Fact = c.args.context.known.now in
    let f : ℕ = c.args.frame in
    let e : End = c.args.end in
    let o : ℕ = c.args.output in
    let s : Stretch = c.piece_at-stretch.result.now in
    let w : World = s.piece.world in
    let quantum : f / c.from.result ≡ f / q = ap (λ k. f / k) c.from.ensures in
    let heard : muted (world_at q tape f).graph.value e ≡ false = ap (λ (x : World). muted x.graph.value e) (world_is tape (f / q) w c.piece_at-stretch.ensures.there) ∙ sym c.is_muted.ensures ∙ c.if-is_muted.false in
    let is : (a : Account) → AllHold q tape a facts → a.counts (f / q) e ≡ c.in-Some.count =
    subst (λ j. (a : Account) → AllHold q tape a facts → a.counts j e ≡ c.in-Some.count) quantum c.in-Some.ensures.value in
    let kind : Kind = kind_of w e.node.0 in
    let same : kind_of (world_at q tape f) e.node.0 ≡ kind = ap (λ (x : World). kind_of x e.node.0) (world_is tape (f / q) w c.piece_at-stretch.ensures.there) in
    let low : (a : Account) → AllHold q tape a facts → c.args.channel < a.counts (f / q) e = λ a all. subst (λ k. c.args.channel < k) (sym (is a all)) c.if-channel-count.false in
    let few = c.in-Some.ensures.few in
    let lower = c.if-channel-count.false in
    record { output = c.requires.output; loud = heard; channel = low; few = omega (arith, few, lower) }

pub returns-clause-none : goal.returns-clause-none
returns-clause-none c =
    let q : ℕ = c.args.context.quantum in
    let tape : List World = tape_in c.args.context in
    let facts : List Fact = c.args.context.known.now in
    let f : ℕ = c.args.frame in
    let e : End = c.args.end in
    let o : ℕ = c.args.output in
    let s : Stretch = c.piece_at-stretch.result.now in
    let w : World = s.piece.world in
    let quantum : f / c.from.result ≡ f / q = ap (λ k. f / k) c.from.ensures in
    let heard : muted (world_at q tape f).graph.value e ≡ false = ap (λ (x : World). muted x.graph.value e) (world_is tape (f / q) w c.piece_at-stretch.ensures.there) ∙ sym c.is_muted.ensures ∙ c.if-is_muted.false in
    let is : (a : Account) → AllHold q tape a facts → a.counts (f / q) e ≡ c.in-Some.count =
    subst (λ j. (a : Account) → AllHold q tape a facts → a.counts j e ≡ c.in-Some.count) quantum c.in-Some.ensures.value in
    let stands : Stands (Count (f / q) e o) facts = subst (λ j. Stands (Count j e o) facts) quantum c.in-Some.ensures.stands in
    let kind : Kind = kind_of w e.node.0 in
    let same : kind_of (world_at q tape f) e.node.0 ≡ kind = ap (λ (x : World). kind_of x e.node.0) (world_is tape (f / q) w c.piece_at-stretch.ensures.there) in
    let low : (a : Account) → AllHold q tape a facts → c.args.channel < a.counts (f / q) e = λ a all. subst (λ k. c.args.channel < k) (sym (is a all)) c.if-channel-count.false in
    none_as c.next_by_kind-missing.result (channel_known q tape facts f e o c.args.channel heard kind same low stands) c.next_by_kind-missing.ensures.none

pub returns-clause-some : goal.returns-clause-some
returns-clause-some c =
    let q : ℕ = c.args.context.quantum in
    let tape : List World = tape_in c.args.context in
    let facts : List Fact = c.args.context.known.now in
    let f : ℕ = c.args.frame in
    let e : End = c.args.end in
    let o : ℕ = c.args.output in
    let s : Stretch = c.piece_at-stretch.result.now in
    let w : World = s.piece.world in
    let quantum : f / c.from.result ≡ f / q = ap (λ k. f / k) c.from.ensures in
    let heard : muted (world_at q tape f).graph.value e ≡ false = ap (λ (x : World). muted x.graph.value e) (world_is tape (f / q) w c.piece_at-stretch.ensures.there) ∙ sym c.is_muted.ensures ∙ c.if-is_muted.false in
    let is : (a : Account) → AllHold q tape a facts → a.counts (f / q) e ≡ c.in-Some.count =
    subst (λ j. (a : Account) → AllHold q tape a facts → a.counts j e ≡ c.in-Some.count) quantum c.in-Some.ensures.value in
    let kind : Kind = kind_of w e.node.0 in
    let same : kind_of (world_at q tape f) e.node.0 ≡ kind = ap (λ (x : World). kind_of x e.node.0) (world_is tape (f / q) w c.piece_at-stretch.ensures.there) in
    let low : (a : Account) → AllHold q tape a facts → c.args.channel < a.counts (f / q) e = λ a all. subst (λ k. c.args.channel < k) (sym (is a all)) c.if-channel-count.false in
    some_as c.next_by_kind-missing.result (channel_missing q tape facts f e o c.args.channel heard kind same low) c.next_by_kind-missing.ensures.some

pub returns-clause-after : goal.returns-clause-after
returns-clause-after c =
    let q : ℕ = c.args.context.quantum in
    let tape : List World = tape_in c.args.context in
    let facts : List Fact = c.args.context.known.now in
    let f : ℕ = c.args.frame in
    let e : End = c.args.end in
    let o : ℕ = c.args.output in
    let s : Stretch = c.piece_at-stretch.result.now in
    let w : World = s.piece.world in
    let quantum : f / c.from.result ≡ f / q = ap (λ k. f / k) c.from.ensures in
    let heard : muted (world_at q tape f).graph.value e ≡ false = ap (λ (x : World). muted x.graph.value e) (world_is tape (f / q) w c.piece_at-stretch.ensures.there) ∙ sym c.is_muted.ensures ∙ c.if-is_muted.false in
    let is : (a : Account) → AllHold q tape a facts → a.counts (f / q) e ≡ c.in-Some.count =
    subst (λ j. (a : Account) → AllHold q tape a facts → a.counts j e ≡ c.in-Some.count) quantum c.in-Some.ensures.value in
    let kind : Kind = kind_of w e.node.0 in
    let same : kind_of (world_at q tape f) e.node.0 ≡ kind = ap (λ (x : World). kind_of x e.node.0) (world_is tape (f / q) w c.piece_at-stretch.ensures.there) in
    let low : (a : Account) → AllHold q tape a facts → c.args.channel < a.counts (f / q) e = λ a all. subst (λ k. c.args.channel < k) (sym (is a all)) c.if-channel-count.false in
    on_some_as c.next_by_kind-missing.result (tail_past q tape facts f e o c.args.channel heard kind same low c.next_by_kind-missing.new.item) c.next_by_kind-missing.ensures.after
