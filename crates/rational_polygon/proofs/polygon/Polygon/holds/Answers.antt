use Rattle.rational_polygon.proofs.polygon.Polygon.holds.Goals as goal

pub returns-then-is_in_rectangle : goal.returns-then-is_in_rectangle
returns-then-is_in_rectangle c =
    let rectangle = rw c.as_slice-corners.ensures.value at c.is_in_rectangle.ensures in
    let edges = rw c.as_slice-corners.ensures.value at c.is_left_of_edges.ensures in
    rw (← c.self.view_is) (λ h. record { rectangle = rectangle.0 c.if-is_in_rectangle.true; edges = edges.0 h }, λ h. edges.1 h.edges)
