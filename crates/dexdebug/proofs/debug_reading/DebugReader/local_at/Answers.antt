use Rattle.dexdebug.proofs.Common.{◌≡◌, ℕ, ◌+◌, Some, sym, subst, arith, IndexAt}
use Rattle.dexdebug.proofs.DebugRead.{some_parts}
use Rattle.dexdebug.proofs.debug_reading.DebugReader.local_at.Goals as goal

pub returns-in_err-name_idx-clause-only : goal.returns-in_err-name_idx-clause-only
returns-in_err-name_idx-clause-only c = λ register_num name_idx type_idx n h.
    let r = some_parts (c.in_ok-register_num.register_num, c.in_ok-register_num.register_len) (register_num, h.register_size) (c.in_ok-register_num.ensures.only register_num h.register_size h.at_register) in
    let e = c.in_err-name_idx.ensures.only name_idx h.name_size (subst (λ (k : ℕ). IndexAt c.args.self.now.counts.texts c.args.self.now.bytes.now (c.args.at + k) name_idx h.name_size) (sym r.1) h.at_name) in absurd cc

pub returns-in_err-type_idx-clause-only : goal.returns-in_err-type_idx-clause-only
returns-in_err-type_idx-clause-only c = λ register_num name_idx type_idx n h.
    let r = some_parts (c.in_ok-register_num.register_num, c.in_ok-register_num.register_len) (register_num, h.register_size) (c.in_ok-register_num.ensures.only register_num h.register_size h.at_register) in
    let s = some_parts (c.in_ok-name_idx.name_idx, c.in_ok-name_idx.name_len) (name_idx, h.name_size) (c.in_ok-name_idx.ensures.only name_idx h.name_size (subst (λ (k : ℕ). IndexAt c.args.self.now.counts.texts c.args.self.now.bytes.now (c.args.at + k) name_idx h.name_size) (sym r.1) h.at_name)) in
    let place : c.args.at + h.register_size + h.name_size ≡ c.args.at + c.in_ok-register_num.register_len + c.in_ok-name_idx.name_len = omega (arith, r.1, s.1) in
    let e = c.in_err-type_idx.ensures.only type_idx h.type_size (subst (λ (k : ℕ). IndexAt c.args.self.now.counts.types c.args.self.now.bytes.now k type_idx h.type_size) place h.at_type) in absurd cc

pub returns-clause-only : goal.returns-clause-only
returns-clause-only c = λ register_num name_idx type_idx n h.
    let r = some_parts (c.in_ok-register_num.register_num, c.in_ok-register_num.register_len) (register_num, h.register_size) (c.in_ok-register_num.ensures.only register_num h.register_size h.at_register) in
    let s = some_parts (c.in_ok-name_idx.name_idx, c.in_ok-name_idx.name_len) (name_idx, h.name_size) (c.in_ok-name_idx.ensures.only name_idx h.name_size (subst (λ (k : ℕ). IndexAt c.args.self.now.counts.texts c.args.self.now.bytes.now (c.args.at + k) name_idx h.name_size) (sym r.1) h.at_name)) in
    let place : c.args.at + h.register_size + h.name_size ≡ c.args.at + c.in_ok-register_num.register_len + c.in_ok-name_idx.name_len = omega (arith, r.1, s.1) in
    let t = some_parts (c.in_ok-type_idx.type_idx, c.in_ok-type_idx.type_len) (type_idx, h.type_size) (c.in_ok-type_idx.ensures.only type_idx h.type_size (subst (λ (k : ℕ). IndexAt c.args.self.now.counts.types c.args.self.now.bytes.now k type_idx h.type_size) place h.at_type)) in
    let size : c.in_ok-register_num.register_len + c.in_ok-name_idx.name_len + c.in_ok-type_idx.type_len ≡ n = omega (arith, r.1, s.1, t.1, h.size) in λ j. Some (r.0 j, s.0 j, t.0 j, size j)
