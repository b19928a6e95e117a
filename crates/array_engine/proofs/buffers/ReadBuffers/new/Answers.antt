use Rattle.array_engine.proofs.buffers.ReadBuffers.new.Goals as goal

pub returns-clause-reply : goal.returns-clause-reply
returns-clause-reply c = c.in_ok-reply.ensures.items_if_clones_equal (λ y e. e)
