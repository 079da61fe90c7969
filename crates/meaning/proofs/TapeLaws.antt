-- What comes later changes nothing earlier.
use Rattle.std.proofs.Common.{ℕ, zero, suc, ◌≡◌, ◌*◌, ◌/◌, ◌<◌, ◌≤◌, length, List, [], ◌∷◌, ◌++◌, refl, ◌∙◌, ap, arith, subst}
use Rattle.std.proofs.lemmas.Nat.{le-div, div_below}
use Rattle.std.proofs.Math.Nat.{mul_comm, div-mul-le_self, le_trans}
use Rattle.law_base.specs.Heights.{state}
use Rattle.law_base.proofs.SchemeLaws.{state_same}
use Rattle.conn_graph.specs.Ends.{height}
use Rattle.meaning.specs.declared.world.World.{World}
use Rattle.meaning.specs.World.{sounding}
use Rattle.meaning.specs.Counts.{Counts, world_in, count_scheme, count_at, count}
use Rattle.meaning.specs.Values.{world_at, known_at, value_scheme, value_at, value, frame}

-- tapes that agree through quantum j have the same counts there
pub count_same : (q : ℕ) (tape tape' : List World) (j : ℕ) → ((k : ℕ) → k ≤ j → world_in tape k ≡ world_in tape' k) → count q tape j ≡ count q tape' j
unfolding count count_at state height
count_same q tape tape' j same = state_same (count_scheme q) (world_in tape) (world_in tape') j same

-- and the same values in its frames
pub value_same : (q : ℕ) → 0 < q → (tape tape' : List World) (f : ℕ) → ((k : ℕ) → k ≤ f / q → world_in tape k ≡ world_in tape' k) → value q tape f ≡ value q tape' f
unfolding value value_at state height
value_same q some tape tape' f same = state_same (value_scheme q) (known_at q tape) (known_at q tape') f (λ g l.
    let low : g / q ≤ f / q = le-div (g / q) f q some (omega (arith, div-mul-le_self g q)) in
    let world : world_at q tape g ≡ world_at q tape' g = same (g / q) low in
    let counts : count q tape (g / q) ≡ count q tape' (g / q) = count_same q tape tape' (g / q) (λ k m. same k (le_trans m low)) in
    ap (λ w. let x : World × Counts = (w, count q tape (g / q)) in x) world ∙ ap (λ c. let x : World × Counts = (world_at q tape' g, c) in x) counts)

pub world_before : (tape : List World) (w : World) (k : ℕ) → k < length tape → world_in (tape ++ w ∷ []) k ≡ world_in tape k
world_before [] w k l = absurd (omega arith)
world_before (x ∷ xs) w zero l = refl
world_before (x ∷ xs) w (suc k) l = world_before xs w k (omega arith)

pub world_after : (tape : List World) (w : World) (k : ℕ) → k ≡ length tape → world_in (tape ++ w ∷ []) k ≡ sounding w
world_after [] w zero e = refl
world_after [] w (suc k) e = absurd (omega arith)
world_after (x ∷ xs) w zero e = absurd (omega arith)
world_after (x ∷ xs) w (suc k) e = world_after xs w k (omega arith)

pub count_before : (q : ℕ) (tape : List World) (w : World) (k : ℕ) → k < length tape → count q (tape ++ w ∷ []) k ≡ count q tape k
count_before q tape w k l = count_same q _ _ k (λ j m. world_before tape w j (omega arith))

pub quantum_below : (q f n : ℕ) → 0 < q → f < q * n → f / q < n
quantum_below q f n some l = div_below f q n some (subst (λ x. f < x) (mul_comm q n) l)

-- a World that is appended leaves the frames before as they were
pub frame_before : (q : ℕ) → 0 < q → (tape : List World) (w : World) (f : ℕ) → f < q * length tape → frame q (tape ++ w ∷ []) f ≡ frame q tape f
frame_before q some tape w f l =
    let low : f / q < length tape = quantum_below q f (length tape) some l in
    let world : world_at q (tape ++ w ∷ []) f ≡ world_at q tape f = world_before tape w (f / q) low in
    let counts : count q (tape ++ w ∷ []) (f / q) ≡ count q tape (f / q) = count_before q tape w (f / q) low in
    let values : value q (tape ++ w ∷ []) f ≡ value q tape f = value_same q some _ _ f (λ j m. world_before tape w j (omega arith)) in
    λ i. record { world = world i; counts = counts i; values = values i }
