use Rattle.std.proofs.Common.{ℕ, ◌≡◌, ◌≤◌, get_or, arith}
use Rattle.cue_show.proofs.BytesLemmas.{are_bytes-from_each}
use Rattle.cue_show.proofs.bytes.Bytes.as_slice.Goals as goal

pub returns-clause-bytes : goal.returns-clause-bytes
returns-clause-bytes c =
    let fits : (k : ℕ) → get_or c.as_slice-bytes.result.now k 0 ≤ 255 = λ k. grind arith in
    let same : c.as_slice-bytes.result.now ≡ c.args.self.now = cc in
    rw same at (are_bytes-from_each c.as_slice-bytes.result.now fits)
