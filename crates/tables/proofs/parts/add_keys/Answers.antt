-- `tables::parts::add_keys` meets its contract: no step is refused. Assumes nothing.
use Rattle.std.proofs.Common.{refl, ◌∙◌, ◌+◌, ◌*◌, arith}
use Rattle.fips197.specs.State.{add_round_key}
use Rattle.lists.specs.Lists.{chunk}
use Rattle.lists.proofs.Puts.{part-long}
use Rattle.lists.proofs.Chunks.{chunk_in, part-chunk}
use Rattle.lists.proofs.Putting.{putting-more, putting_end}
use Rattle.layers.specs.Layers.{each_block}
use Rattle.tables.proofs.SubChunks.{sub-chunk, sub-room}
use Rattle.tables.proofs.Stepping.{Stepped, key_stepped}
use Rattle.tables.proofs.parts.add_keys.Goals as goal
use Rattle.tables.proofs.parts.add_keys.Goals.{After-add_round_key-step}

-- a turn's part lies within, and its round key within the key table
stepped : (c : After-add_round_key-step) → let s = c.args in let k = c.loop-k.k in let g = c.add_round_key-step in
    Stepped g.result (each_block (λ b. add_round_key b (chunk 16 s.r (chunk s.w k s.keys.now))) (chunk s.n k s.state.now)) g.new.part
stepped c =
    let s = c.args in
    let q = c.requires in
    let l = c.loop-k in
    let g = c.add_round_key-step in
    let room = chunk_in s.n l.k 6 _ l.invariant.long (omega arith) in
    let within = sub-room 16 (s.r * 16) s.w l.k (l.k * s.w + s.r * 16) _ refl refl q.round 6 _ q.keys (omega arith) in
    key_stepped g.result s.n s.w s.r l.k s.keys.now s.state.now _ _ _ q.table.part (part-long s.n _ _ _ refl room)
    (part-long 16 (l.k * s.w + s.r * 16) _ _ refl within)
    (sub-chunk 16 s.r s.w l.k _ _ refl refl q.round s.keys.now)
    (part-chunk s.n l.k (l.k * s.n) _ l.state refl refl ∙ l.invariant.rest l.k (omega arith))
    g.ensures.number g.ensures.bytes

pub returns-in_default : goal.returns-in_default
returns-in_default c =
    absurd (c.in_default.not-Ok tt (stepped (goal.at.returns-in_default c).After-add_round_key-step).0)

pub loop-k-preserved : goal.loop-k-preserved
loop-k-preserved c =
    let s = c.args in
    let l = c.loop-k in
    let g = c.add_round_key-step in
    let room = chunk_in s.n l.k 6 _ l.invariant.long (omega arith) in
    putting-more _ _ _ _ _ _ l.invariant _ _ _ (omega arith) refl refl
    (g.auto.part ∙ part-long s.n _ _ _ refl room) (stepped (goal.at.loop-k-preserved c).After-add_round_key-step).1

pub returns-clause-bytes : goal.returns-clause-bytes
returns-clause-bytes c = putting_end _ _ _ _ _ _ c.loop-k.invariant (omega arith)
