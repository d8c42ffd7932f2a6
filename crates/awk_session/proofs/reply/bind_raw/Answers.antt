use Rattle.std.proofs.Common.{◌≤◌, length, sym, subst, arith}
use Rattle.serde_json.specs.View.{view}
use Rattle.awk_store.specs.Buffers.{held_len}
use Rattle.awk_load_line.specs.LoadCost.{form_width}
use Rattle.awk_load_line.proofs.LoadLaws.{load_cost-bytes}
use Rattle.awk_load_line.proofs.RawLaws.{total_len-parted}
use Rattle.awk_session.proofs.reply.bind_raw.Goals as goal

pub returns-clause-cost : goal.returns-clause-cost
returns-clause-cost g c =
    let raw = c.args.raw.now in
    let held : held_len c.in_ok-store.store.held ≤ length raw =
    subst (λ h. held_len h ≤ length raw) (sym c.in_ok-store.ensures)
    (omega (arith, total_len-parted c.args.parts.now raw)) in
    let more = load_cost-bytes (form_width (view c.args.head.now.form.now))
    (held_len c.in_ok-store.store.held) (length raw) held in
    omega (arith, c.bind_loaded.ensures.cost, more)
