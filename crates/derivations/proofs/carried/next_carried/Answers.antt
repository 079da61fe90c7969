use Rattle.std.proofs.Common.{ℕ, ◌≡◌, ◌/◌, ◌+◌, List, ap, subst, arith}
use Rattle.meaning.specs.declared.world.World.{World}
use Rattle.explain.specs.declared.facts.Key.TheVariants.{Count}
use Rattle.explain.specs.declared.facts.Fact.{Fact}
use Rattle.explain.specs.Accounts.{Account}
use Rattle.explain.specs.Checked.{AllHold, Stands}
use Rattle.derivations.specs.Contexts.{tape_in}
use Rattle.derivations.proofs.Carrying.{CountIs, channels_before, carried_known, before_channel, channel_missing}
use Rattle.derivations.proofs.carried.next_carried.Goals as goal

pub missing_channel-requires : goal.missing_channel-requires
missing_channel-requires c = λ k low.
    let q : ℕ = c.args.context.quantum in
    let tape : List World = tape_in c.args.context in
    let facts : List Fact = c.args.context.known.now in
    let f : ℕ = c.args.frame in
    let quantum : f / c.from.result ≡ f / q = ap (λ n. f / n) c.from.ensures in
    let is : CountIs q tape facts c.requires.ready f c.args.end c.args.output c.in-Some.count =
    subst (λ j. (a : Account) → AllHold q tape a facts → a.counts j c.args.end ≡ c.in-Some.count) quantum c.in-Some.ensures.value in
    let least = c.min-first.ensures in
    let before = c.saturating_sub.ensures in
    let number = c.from-2.ensures in
    channels_before q tape facts c.requires.ready f c.args.end c.args.output c.args.item.now c.in-Some.count c.requires.before is k (omega (arith, low, least, before, number))

pub returns-in_err-channel-clause-none : goal.returns-in_err-channel-clause-none
returns-in_err-channel-clause-none c =
    let q : ℕ = c.args.context.quantum in
    let tape : List World = tape_in c.args.context in
    let facts : List Fact = c.args.context.known.now in
    let f : ℕ = c.args.frame in
    let quantum : f / c.from.result ≡ f / q = ap (λ n. f / n) c.from.ensures in
    let is : CountIs q tape facts c.requires.ready f c.args.end c.args.output c.in-Some.count =
    subst (λ j. (a : Account) → AllHold q tape a facts → a.counts j c.args.end ≡ c.in-Some.count) quantum c.in-Some.ensures.value in
    let stands : Stands (Count (f / q) c.args.end c.args.output) facts = subst (λ j. Stands (Count j c.args.end c.args.output) facts) quantum c.in-Some.ensures.stands in
    rw c.from_residual.ensures (carried_known q tape facts c.requires.ready f c.args.end c.args.output c.in-Some.count stands is c.in_err-channel.ensures.none)

pub returns-clause-some : goal.returns-clause-some
returns-clause-some c =
    let q : ℕ = c.args.context.quantum in
    let tape : List World = tape_in c.args.context in
    let facts : List Fact = c.args.context.known.now in
    let f : ℕ = c.args.frame in
    let quantum : f / c.from.result ≡ f / q = ap (λ n. f / n) c.from.ensures in
    let is : CountIs q tape facts c.requires.ready f c.args.end c.args.output c.in-Some.count =
    subst (λ j. (a : Account) → AllHold q tape a facts → a.counts j c.args.end ≡ c.in-Some.count) quantum c.in-Some.ensures.value in
    channel_missing q tape facts c.requires.ready f c.args.end c.args.output c.requires.there c.requires.output c.in-Some.count c.in_ok-channel.channel is c.in-Some.ensures.few
    c.in_ok-channel.ensures.low c.in_ok-channel.ensures.absent

pub returns-clause-after : goal.returns-clause-after
returns-clause-after c =
    let q : ℕ = c.args.context.quantum in
    let tape : List World = tape_in c.args.context in
    let facts : List Fact = c.args.context.known.now in
    let f : ℕ = c.args.frame in
    let quantum : f / c.from.result ≡ f / q = ap (λ n. f / n) c.from.ensures in
    let stands : Stands (Count (f / q) c.args.end c.args.output) facts = subst (λ j. Stands (Count j c.args.end c.args.output) facts) quantum c.in-Some.ensures.stands in
    before_channel q tape facts c.requires.ready f c.args.end c.args.output c.in-Some.count c.in_ok-channel.channel (c.from-3.result + 1) (ap (λ n. n + 1) c.from-3.ensures) stands c.in_ok-channel.ensures.before
