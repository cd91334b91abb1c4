-- The calls of the plotter's port, made one after the other by a host, are a history: what holds of every history (crate `plotter`, proofs/Laws)
-- holds of them. Assumes nothing.
use Prim.Native.Nat.{ℕ, ◌+◌, ◌%◌, ◌≤◌, ◌<◌}
use native.Mathlib.Omega.{arith}
use mathlib.Core.Path.{◌≡◌, refl, sym, ap, ◌∙◌}
use lib.ListN.{length, take, length-append}
use Rattle.specification.specs.Bytes.{Bytes}
use Rattle.plotter.specs.declared.Port.{Port}
use Rattle.plotter.specs.Port.{port_of, step, occur}
use Rattle.plotter.specs.History.{History, action, then, play, chances, total}
use Rattle.plotter.proofs.Laws.Sent.{a-beginning, finishes}
use Rattle.plotter.proofs.Laws.Registers.{sum-register}
use Rattle.vodlasim_c.specs.Port.{Calls, none, stepped, occurred}

-- the registers after the calls are those that the history leaves, and as many bytes went out
pub calls-play :
    {h : History} {r r' u : Bytes} {n : ℕ} → Calls h r r' u n →
    (port_of r' ≡ (play h (port_of r) u).port) × (n ≡ length (play h (port_of r) u).sent)
unfolding play then action
calls-play none = (refl, refl)
calls-play (stepped {h} {r} {r'} {r''} {u} {n} {m} s c) =
    let same : port_of r' ≡ (step (port_of r) u).port = ap port_of s.registers in
    let (registers, sent) = calls-play c in
    let first = step (port_of r) u in (
      rw (same, s.left) at registers,
      omega (arith, s.sent, rw (same, s.left) at sent, length-append first.sent (play h first.port first.unsent).sent),
    )
calls-play (occurred {h} {r} {r'} {r''} {u} {n} e s c) =
    let same : port_of r' ≡ occur e (port_of r) = ap port_of s in
    let (registers, sent) = calls-play c in
    (rw same at registers, rw same at sent)

-- so they send the first n bytes of the listing, the history's, each once and in order
pub calls-send : {h : History} {r r' u : Bytes} {n : ℕ} → Calls h r r' u n → take n u ≡ (play h (port_of r) u).sent
calls-send {h} {r} {r'} {u} {n} c = sym (a-beginning h (port_of r) u ∙ ap (λ (k : ℕ). take k u) (sym (calls-play c).1))

-- they send all of it where as many of their steps as it has bytes find ready set and paper in
pub calls-finish : {h : History} {r r' u : Bytes} {n : ℕ} → Calls h r r' u n → length u ≤ chances h (port_of r) u → n ≡ length u
calls-finish {h} {r} {r'} {u} c enough = (calls-play c).1 ∙ ap length (finishes h (port_of r) u enough).0

-- and the sum register is its first value and these bytes, added, modulo 256
pub calls-sum :
    {h : History} {r r' u : Bytes} {n : ℕ} → Calls h r r' u n → (port_of r).sum < 256 →
    (port_of r').sum ≡ ((port_of r).sum + total (take n u)) % 256
calls-sum {h} {r} {r'} {u} c byte =
    ap (λ (p : Port). p.sum) (calls-play c).0 ∙ sum-register h (port_of r) u byte
    ∙ ap (λ (s : Bytes). ((port_of r).sum + total s) % 256) (sym (calls-send c))
